-- Every state that is reached from the fresh one is settled: the last pair, if it is a command, has set channel and field,
-- and only refused pairs can have come since.
-- Assumes nothing.
use Rattle.std.specs.Prelude.{Some, None}
use mathlib.Core.Bool.{Bool, true, false, cond}
use mathlib.Core.List.{List, [], ◌∷◌}
use mathlib.Core.Path.{◌≡◌, refl, ap, ◌∙◌}
use Rattle.code.specs.Outcome.{Outcome, answer, refused}
use Rattle.code.specs.Read.{read_pair}
use Rattle.code.specs.declared.code.Code.{Code}
use Rattle.code.specs.declared.code.Code.TheVariants as code
use Rattle.code.specs.declared.control.ControlCode.{ControlCode}
use Rattle.code.specs.declared.pair.Pair.{Pair}
use Rattle.agreement.specs.FrameRate.{SetBy, Settled}
use Rattle.receiver.proofs.Copies.{field_again}
use Rattle.receiver.specs.Reading.{after}
use Rattle.receiver.specs.Receiver.{acts, after_reading, forgotten, fresh, heard_codes, heard_text, is_last, step}
use Rattle.receiver.specs.declared.state.Cea608State.{Cea608State}

module _ (s : Cea608State) (p : Pair) where
  -- by what the pair is read as
  set_by : (t : Cea608State) (o : Outcome (Code × Code)) → read_pair p.0 p.1 ≡ o → (after_reading (forgotten t) p o).1.last_channel ≡ t.last_channel → (after_reading (forgotten t) p o).1.last_received_field ≡ t.last_received_field → SetBy (Some p) t
  unfolding step
  set_by t o e ch f = (
    ap (λ (x : Outcome (Code × Code)). (after_reading (forgotten t) p x).1.last_channel) e ∙ ch,
    ap (λ (x : Outcome (Code × Code)). (after_reading (forgotten t) p x).1.last_received_field) e ∙ f,
  )

  -- what was not refused leaves a settled state, whatever the state was before
  settled_command : (t : Bool) (c : ControlCode) (y : Code) → read_pair p.0 p.1 ≡ answer (code.Control c, y) → Settled (cond t (answer None, forgotten s) (acts s p c)).1
  settled_command true c y e = tt
  settled_command false c y e = set_by (acts s p c).1 (answer (code.Control c, y)) e refl (field_again c.field s.last_received_field)

  settled_codes : (x y : Code) → read_pair p.0 p.1 ≡ answer (x, y) → Settled (heard_codes s p x y).1
  settled_codes (code.Control c) y e = settled_command (is_last p s.last_data) c y e
  settled_codes code.Nul y e = set_by (heard_text s p code.Nul y).1 (answer (code.Nul, y)) e refl refl
  settled_codes (code.Letter l) y e = set_by (heard_text s p (code.Letter l) y).1 (answer (code.Letter l, y)) e refl refl
  settled_codes (code.Unknown b) y e = set_by (heard_text s p (code.Unknown b) y).1 (answer (code.Unknown b, y)) e refl refl

  settled_reading : (o : Outcome (Code × Code)) → read_pair p.0 p.1 ≡ o → Settled s → Settled (after_reading s p o).1
  settled_reading (answer codes) e settled = settled_codes codes.0 codes.1 e
  settled_reading (refused n) e settled = settled

  settled_step : Settled s → Settled (step s p).1
  unfolding step
  settled_step = settled_reading (read_pair p.0 p.1) refl

stays_settled : (s : Cea608State) (ps : List Pair) → Settled s → Settled (after s ps)
stays_settled s [] settled = settled
stays_settled s (p ∷ ps) settled = stays_settled (step s p).1 ps (settled_step s p settled)

pub reached_is_settled : (before : List Pair) → Settled (after fresh before)
reached_is_settled before = stays_settled fresh before tt
