-- The agreement and the frame-rate law together: of what has arrived, at most one copy corrupted in each stretch,
-- padding may be put in or taken out wherever that is harmless, and the receiver reports what was queued.
-- Assumes nothing.
use mathlib.Core.Path.{sym, ◌∙◌}
use Rattle.agreement.proofs.Agreement.{agreement}
use Rattle.agreement.proofs.Repadded.{repadded_law, same_events}
use Rattle.agreement.specs.AnyPadding.{AnyPaddingLaw}
use Rattle.receiver.specs.Receiver.{fresh}

pub at_any_padding : AnyPaddingLaw
at_any_padding calls arrived padded has_no_reset idle line repadded =
    let agrees = agreement calls arrived has_no_reset idle line in
    let same = repadded_law fresh arrived padded repadded in
    record {
      same_events = sym (same_events fresh arrived padded repadded) ∙ agrees.same_events;
      same_channel = sym same.same_channel ∙ agrees.same_channel;
      same_field = sym same.same_field ∙ agrees.same_field;
      same_answers = sym same.same_answers;
    }
