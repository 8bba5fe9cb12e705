-- The first eight bytes, and then a character at a time.
use Rattle.std.proofs.Common.{◌++◌, ◌∷◌, [], List, ℕ, ap₂}
use Rattle.code.specs.Characters.{points}
use Rattle.lines.proofs.Puts.{same_bytes, ◌then◌}
use Rattle.lines.proofs.words.put_text.Goals as goal

abbrev first : ℕ → ℕ → List ℕ
first channel flag = points "text " ++ (channel ∷ 0x20 ∷ flag ∷ [])

pub returns : goal.returns
returns c =
    same_bytes (ap₂ first c.channel_digit-channel.ensures c.flag_digit-flag.ensures) c.put_bytes.ensures
    then c.put_point.ensures
    then c.put_point-2.ensures
