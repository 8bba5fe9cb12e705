-- Words that are put a byte at a time: of one byte more they are those so far and those of the byte.
-- Assumes nothing.
use Prim.Native.Nat.{ℕ, ◌+◌, ◌<◌}
use lib.ListN.{get_or, length, take}
use mathlib.Core.List.{List, [], ◌∷◌, ◌++◌}
use mathlib.Core.Path.{◌≡◌, refl, ap, sym, ◌∙◌}
use Rattle.std.proofs.lemmas.List.{take_more}
use Rattle.lines.proofs.Puts.{same_bytes, ◌then◌}
use Rattle.lines.specs.Put.{Puts}
use Rattle.lines.specs.declared.put.Writer.{Writer}
use Rattle.packet_lines.specs.Words.{character, characters, hex_byte, hex_bytes}

hex_parts : (xs : List ℕ) (b : ℕ) → hex_bytes (xs ++ (b ∷ [])) ≡ hex_bytes xs ++ hex_byte b
hex_parts [] b = refl
hex_parts (x ∷ xs) b = ap (λ (ys : List ℕ). hex_byte x ++ ys) (hex_parts xs b)

shown_parts : (xs : List ℕ) (b : ℕ) → characters (xs ++ (b ∷ [])) ≡ characters xs ++ (character b ∷ [])
shown_parts [] b = refl
shown_parts (x ∷ xs) b = ap (λ (ys : List ℕ). character x ∷ ys) (shown_parts xs b)

pub hex_more : (bytes : List ℕ) (i : ℕ) → i < length bytes → {w m next : Writer} → Puts w (hex_bytes (take i bytes)) m → Puts m (hex_byte (get_or bytes i 0)) next → Puts w (hex_bytes (take (i + 1) bytes)) next
hex_more bytes i less first rest =
    same_bytes (sym (ap hex_bytes (take_more bytes i 0 less) ∙ hex_parts (take i bytes) (get_or bytes i 0))) (first then rest)

pub shown_more : (bytes : List ℕ) (i : ℕ) → i < length bytes → {w m next : Writer} {b : ℕ} → Puts w (characters (take i bytes)) m → b ≡ character (get_or bytes i 0) → Puts m (b ∷ []) next → Puts w (characters (take (i + 1) bytes)) next
shown_more bytes i less first is rest =
    same_bytes (sym (ap characters (take_more bytes i 0 less) ∙ shown_parts (take i bytes) (get_or bytes i 0)))
    (first then same_bytes (ap (λ (c : ℕ). c ∷ []) is) rest)
