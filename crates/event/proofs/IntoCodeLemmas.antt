-- An event that is no text becomes one control code, for the field that was asked and the event's channel, and NUL.
-- Assumes nothing.
use Rattle.std.specs.Prelude.{Some}
use mathlib.Core.Bool.{false, true≢false}
use mathlib.Core.Path.{◌≡◌}
use Prim.Native.Nat.{ℕ}
use native.Mathlib.Omega.{arith}
use Rattle.code.specs.Control.{tab_offset}
use Rattle.code.specs.Outcome.{Outcome, answer, refused}
use Rattle.code.specs.Preamble.{in_row}
use Rattle.code.specs.declared.channel.Channel.{Channel}
use Rattle.code.specs.declared.channel.Field.{Field}
use Rattle.code.specs.declared.code.Code.{Code}
use Rattle.code.specs.declared.code.Code.TheVariants as code
use Rattle.code.specs.declared.control.Control.{Control}
use Rattle.code.specs.declared.control.Control.TheVariants as control
use Rattle.event.specs.Event.{channel_of_event, is_text}
use Rattle.event.specs.IntoCode.{alone, codes, codes_of, or_refusal}
use Rattle.event.specs.declared.event.Cea608.{Cea608}
use Rattle.event.specs.declared.event.Cea608.TheVariants as event

-- a control code for a field and a channel, and NUL
abbrev pub IsAlone : Field → Channel → Code → Code → Type 0
IsAlone f ch x y = (c : Control) × (x ≡ code.Control (record { field = Some f; channel = ch; control = c })) × (y ≡ code.Nul)

is_alone : (f : Field) (ch : Channel) (c : Control) (x y : Code) → alone f ch c ≡ codes x y → IsAlone f ch x y
is_alone f ch c x y told = (c, cc, cc)

or_refused : (f : Field) (ch : Channel) (o : Outcome Control) (x y : Code) → or_refusal f ch o ≡ codes x y → IsAlone f ch x y
or_refused f ch (answer c) x y told = is_alone f ch c x y told
or_refused f ch (refused n) x y told = let z : ◌≡◌ {A = ℕ} 0 1 = cc in absurd (omega arith)

pub one_control_code : (e : Cea608) (f : Field) (x y : Code) → is_text e ≡ false → codes_of e f ≡ codes x y → IsAlone f (channel_of_event e) x y
unfolding codes_of
one_control_code (event.Text t) f x y is told = absurd (true≢false is)
one_control_code (event.NewMode ch m) f x y is told = is_alone f ch _ x y told
one_control_code (event.EraseDisplay ch) f x y is told = is_alone f ch _ x y told
one_control_code (event.EraseNonDisplay ch) f x y is told = is_alone f ch _ x y told
one_control_code (event.CarriageReturn ch) f x y is told = is_alone f ch _ x y told
one_control_code (event.Backspace ch) f x y is told = is_alone f ch _ x y told
one_control_code (event.EndOfCaption ch) f x y is told = is_alone f ch _ x y told
one_control_code (event.TabOffset ch n) f x y is told = or_refused f ch (tab_offset n) x y told
one_control_code (event.DeleteToEndOfRow ch) f x y is told = is_alone f ch _ x y told
one_control_code (event.Preamble ch p) f x y is told = or_refused f ch (in_row p.row (control.Preamble p)) x y told
one_control_code (event.MidRowChange ch m) f x y is told = is_alone f ch _ x y told
