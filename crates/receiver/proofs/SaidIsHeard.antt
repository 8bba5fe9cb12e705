-- What is said is heard. A control code is read back with its channel and its control (`ReadBack` of `code`), and two
-- single codes as they were; a character's code has that character (`BothWays` of `code`).
-- Assumes nothing.
use mathlib.Core.Bool.{Bool, true, false, cond, true≢false}
use Rattle.std.specs.Prelude.{Option, Some}
use mathlib.Core.Path.{◌≡◌, refl, ap, ap₂, sym, subst, ◌∙◌}
use Prim.Native.Nat.{ℕ, ◌≤◌, ◌<◌}
use native.Mathlib.Omega.{arith}
use borrow.Author.Tests.{leb-true}
use lib.Dec.{leb}
use Rattle.code.proofs.Agree.{agree_from}
use Rattle.code.proofs.Ranges.{bounds}
use Rattle.code.proofs.ReadBack.{command_reads_back, mid_row_reads_back, preamble_reads_back, tab_reads_back}
use Rattle.code.specs.Control.{control_code, tab_number, tab_of}
use Rattle.code.specs.Outcome.{answer, refused}
use Rattle.code.specs.Range.{within}
use Rattle.code.specs.ReadBack.{ReadsBack, field_read}
use Rattle.code.specs.Write.{as_single, together, write_code}
use Rattle.code.specs.declared.channel.Channel.{Channel}
use Rattle.code.specs.declared.channel.Field.{Field}
use Rattle.code.specs.declared.code.Code.{Code}
use Rattle.code.specs.declared.code.Code.TheVariants as code
use Rattle.code.specs.declared.control.Command.{Command}
use Rattle.code.specs.declared.control.Command.TheVariants as command
use Rattle.code.specs.declared.control.Control.{Control}
use Rattle.code.specs.declared.control.Control.TheVariants as control
use Rattle.code.specs.declared.preamble.PreambleAddressCode.{PreambleAddressCode}
use Rattle.event.proofs.Back.{mode_back}
use Rattle.event.specs.Event.{channel_of_event}
use Rattle.event.specs.IntoCode.{alone, codes, codes_of, no_first, no_second, or_refusal, refusal, Turned}
use Rattle.event.specs.Mode.{command_of}
use Rattle.event.specs.declared.event.Cea608.{Cea608}
use Rattle.event.specs.declared.event.Cea608.TheVariants as event
use Rattle.event.specs.declared.mode.Mode.{Mode}
use Rattle.event.specs.declared.mode.Mode.TheVariants.{PopOn, PaintOn, RollUp2, RollUp3, RollUp4}
use Rattle.receiver.proofs.Step.{command_acts}
use Rattle.receiver.specs.Heard.{control_event, event_of, new_mode}
use Rattle.receiver.specs.Receiver.{Stepped, field_after, last_field, state}
use Rattle.receiver.specs.SaidIsHeard.{CommandReported, SaidIsHeardLaw, field_named}
use Rattle.receiver.specs.declared.state.LastChannel.TheVariants as channel

-- a control code alone, with NUL after it, is written as its pair
nul_written : write_code code.Nul ≡ as_single 0
unfolding write_code
nul_written = refl

-- a control that has an event and is read back is reported, where its channel and its field are the event's
pub control_reported : (g : Option Field) (f : Field) (ch : Channel) (c : Control) (e : Cea608) → ReadsBack g ch c → control_event ch c ≡ Some e → ch ≡ channel_of_event e → field_read g c ≡ field_named e f → CommandReported (code.Control (record { field = g; channel = ch; control = c })) code.Nul f e
unfolding event_of
control_reported g f ch c e back is on named = (
  record {
    pair = back.pair;
    written = ap₂ together back.written nul_written;
    command_decoded = λ is_a_command s other.
        command_acts s back.pair (record { field = field_read g c; channel = ch; control = c }) (code.Nul, back.read) other
        ∙ ap₂ {C = Stepped} (λ (o : Option Cea608) (d : Channel). (answer o, state (Some back.pair) (channel.Known d) (field_after (field_read g c) (last_field s)))) is on
        ∙ ap {B = Stepped} (λ (h : Option Field). (answer (Some e), state (Some back.pair) (channel.Known (channel_of_event e)) (field_after h (last_field s)))) named;
    text_decoded = λ is_text_lem s on_it. absurd (true≢false (sym back.is_a_command ∙ is_text_lem));
  },
  back.is_a_command,
)

-- its two codes are what was handed in
unfoldable pub first_code : Turned → Code
first_code (codes x y) = x
first_code (refusal n) = code.Nul
first_code (no_first n) = code.Nul
first_code (no_second n) = code.Nul

unfoldable pub second_code : Turned → Code
second_code (codes x y) = y
second_code (refusal n) = code.Nul
second_code (no_first n) = code.Nul
second_code (no_second n) = code.Nul

alone_reported : (f : Field) (ch : Channel) (c : Control) (e : Cea608) (x y : Code) → ReadsBack (Some f) ch c → control_event ch c ≡ Some e → ch ≡ channel_of_event e → field_read (Some f) c ≡ field_named e f → alone f ch c ≡ codes x y → CommandReported x y f e
unfolding first_code second_code
alone_reported f ch c e x y back is on named told =
    let first : code.Control (control_code f ch c) ≡ x = ap first_code told in
    let second : code.Nul ≡ y = ap second_code told in
    subst (λ (z : Code). CommandReported x z f e) second
    (subst (λ (z : Code). CommandReported z code.Nul f e) first (control_reported (Some f) f ch c e back is on named))

-- tabs of 1, 2 and 3 columns
tab_again : (n : ℕ) → 1 ≤ n → n ≤ 3 → tab_number (tab_of n) ≡ n
tab_again n from to = agree_from (λ (k : ℕ). tab_number (tab_of k)) (λ (k : ℕ). k) 1 3 refl n from (omega arith)

tab_by : (f : Field) (ch : Channel) (n : ℕ) (x y : Code) (t : Bool) → within 1 3 n ≡ t → or_refusal f ch (cond t (answer (control.Tab (tab_of n))) (refused 4)) ≡ codes x y → CommandReported x y f (event.TabOffset ch n)
tab_by f ch n x y true inside told =
    let range = bounds 1 3 n inside in
    let same_count = tab_again n range.0 range.1 in
    alone_reported f ch (control.Tab (tab_of n)) (event.TabOffset ch n) x y (tab_reads_back (Some f) ch (tab_of n))
    (ap (λ (k : ℕ). Some (event.TabOffset ch k)) same_count) refl refl told
tab_by f ch n x y false outside told = let z : ◌≡◌ {A = ℕ} 0 1 = cc in absurd (omega arith)

-- preambles of the rows 0 to 14
row_by : (f : Field) (ch : Channel) (p : PreambleAddressCode) (x y : Code) (t : Bool) → leb p.row 14 ≡ t → or_refusal f ch (cond t (answer (control.Preamble p)) (refused 3)) ≡ codes x y → CommandReported x y f (event.Preamble ch p)
row_by f ch p x y true inside told =
    let row : p.row < 15 = omega (arith, leb-true p.row 14 inside) in
    alone_reported f ch (control.Preamble p) (event.Preamble ch p) x y (preamble_reads_back (Some f) ch p row) refl refl refl told
row_by f ch p x y false outside told = let z : ◌≡◌ {A = ℕ} 0 1 = cc in absurd (omega arith)

command_reported : (f : Field) (ch : Channel) (c : Command) (e : Cea608) (x y : Code) → control_event ch (control.Command c) ≡ Some e → ch ≡ channel_of_event e → Some f ≡ field_named e f → alone f ch (control.Command c) ≡ codes x y → CommandReported x y f e
command_reported f ch c e x y is on named told =
    alone_reported f ch (control.Command c) e x y (command_reads_back (Some f) ch c) is on named told

mode_reported : (ch : Channel) (m : Mode) → control_event ch (control.Command (command_of m)) ≡ Some (event.NewMode ch m)
mode_reported ch PopOn = ap (new_mode ch) (mode_back PopOn)
mode_reported ch PaintOn = ap (new_mode ch) (mode_back PaintOn)
mode_reported ch RollUp2 = ap (new_mode ch) (mode_back RollUp2)
mode_reported ch RollUp3 = ap (new_mode ch) (mode_back RollUp3)
mode_reported ch RollUp4 = ap (new_mode ch) (mode_back RollUp4)

pub said_is_heard : SaidIsHeardLaw
unfolding codes_of
said_is_heard (event.Text t) f x y is told = absurd (true≢false is)
said_is_heard (event.NewMode ch m) f x y is told = command_reported f ch (command_of m) (event.NewMode ch m) x y (mode_reported ch m) refl refl told
said_is_heard (event.EraseDisplay ch) f x y is told = command_reported f ch command.EraseDisplayedMemory (event.EraseDisplay ch) x y refl refl refl told
said_is_heard (event.EraseNonDisplay ch) f x y is told = command_reported f ch command.EraseNonDisplayedMemory (event.EraseNonDisplay ch) x y refl refl refl told
said_is_heard (event.CarriageReturn ch) f x y is told = command_reported f ch command.CarriageReturn (event.CarriageReturn ch) x y refl refl refl told
said_is_heard (event.Backspace ch) f x y is told = command_reported f ch command.Backspace (event.Backspace ch) x y refl refl refl told
said_is_heard (event.EndOfCaption ch) f x y is told = command_reported f ch command.EndOfCaption (event.EndOfCaption ch) x y refl refl refl told
said_is_heard (event.TabOffset ch n) f x y is told = tab_by f ch n x y (within 1 3 n) refl told
said_is_heard (event.DeleteToEndOfRow ch) f x y is told = command_reported f ch command.DeleteToEndOfRow (event.DeleteToEndOfRow ch) x y refl refl refl told
said_is_heard (event.Preamble ch p) f x y is told = row_by f ch p x y (leb p.row 14) refl told
said_is_heard (event.MidRowChange ch m) f x y is told =
    alone_reported f ch (control.MidRow m) (event.MidRowChange ch m) x y (mid_row_reads_back (Some f) ch m) refl refl refl told
