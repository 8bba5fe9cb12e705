-- The agreement, demand 3, for every list of calls and every line that the letter allows. What is sent is the queue's pairs
-- doubled (`Doubled`); of pairs sent doubled over such a line a receiver decodes each once (`DecodedOnce`); and it
-- refuses what the line corrupted (`Refused`).
-- Assumes nothing.
use mathlib.Core.Bool.{true}
use mathlib.Core.List.{List, [], ◌++◌, append-nil}
use Rattle.std.specs.Prelude.{None}
use mathlib.Core.Path.{◌≡◌, refl, ap, sym, subst, ◌∙◌}
use Rattle.code.specs.declared.pair.Pair.{Pair}
use Rattle.receiver.specs.Receiver.{fresh}
use Rattle.agreement.proofs.Doubled.{doubled_is_odd, queue_pairs_are_odd, sent_is_doubled}
use Rattle.agreement.proofs.DecodedOnce.{doubled_is_decoded_once}
use Rattle.agreement.proofs.OneByOne.{line_one_by_one}
use Rattle.sender.proofs.FirstInFirstOut.{calls_stay_good}
use Rattle.sender.proofs.Refines.{fresh_good, said_idle}
use Rattle.sender.proofs.SendsLeft.{none_owed_lem}
use Rattle.agreement.proofs.Refused.{refusals_are_by_1, the_corrupted_are_refused}
use Rattle.agreement.specs.Agreement.{Agreement, DemandThree, EndsIdle, Line, queue_pairs, sent_by}
use Rattle.agreement.specs.Doubled.{doubled}
use Rattle.agreement.specs.OneByOne.{AllOdd}
use Rattle.sender.specs.Calls.{Call, no_reset, sender_after}
use Rattle.sender.specs.Sender.{fresh_sender, view}
use Rattle.sender.specs.Sending.{owed_pairs, still_owed}

-- of any pairs of odd parity, each command doubled, over any line that the letter allows
pub odd_pairs_agree : (ps arrived : List Pair) → AllOdd ps → Line (doubled ps) arrived → Agreement ps (doubled ps) arrived
odd_pairs_agree ps arrived odd line =
    let sent_odd = doubled_is_odd ps odd in
    let passed = line_one_by_one (doubled ps) arrived sent_odd line in
    let heard = doubled_is_decoded_once ps odd None arrived fresh fresh passed refl (record { channel = refl; field = refl }) in
    record {
      same_events = heard.same_events;
      same_channel = heard.ends_same.channel;
      same_field = heard.ends_same.field;
      refuses_the_corrupted = the_corrupted_are_refused (doubled ps) arrived fresh sent_odd line.pairs;
      refuses_by_1 = refusals_are_by_1 arrived fresh;
    }

-- once idle, what was sent is the queue's pairs doubled
pub sent_once_idle : (calls : List Call) → no_reset calls ≡ true → EndsIdle calls → sent_by calls fresh_sender ≡ doubled (queue_pairs calls fresh_sender)
sent_once_idle calls has_no_reset idle =
    let end = view (sender_after calls fresh_sender) in
    let is_idle_lem = said_idle (sender_after calls fresh_sender) (calls_stay_good calls fresh_sender fresh_good) idle in
    let none_left : still_owed end.repeats ≡ [] = ap owed_pairs (none_owed_lem end is_idle_lem) in
    sym (append-nil (sent_by calls fresh_sender))
    ∙ ap (λ (l : List Pair). sent_by calls fresh_sender ++ l) (sym none_left)
    ∙ sent_is_doubled calls fresh_sender fresh_good has_no_reset

pub agreement : DemandThree
agreement calls arrived has_no_reset idle line =
    let ps = queue_pairs calls fresh_sender in
    let sent = sent_once_idle calls has_no_reset idle in
    subst (λ (l : List Pair). Agreement ps l arrived) (sym sent)
    (odd_pairs_agree ps arrived (queue_pairs_are_odd calls fresh_sender fresh_good) (subst (λ (l : List Pair). Line l arrived) sent line))
