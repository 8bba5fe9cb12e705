-- The drain, from 01's section "Queue and sender": whole pairs into the part of the output from the given start, until
-- idle, out of room or at its limit of pairs. 12, then 11: the start lies past the end.
use Rattle.std.specs.Prelude.{ℕ, zero, suc, cond, List, [], ◌∷◌, ◌++◌, ltb, drop, length, take, Result}
use Rattle.code.specs.Outcome.{Outcome, answer, outcome, refused}
use Rattle.code.specs.Pair.{pair}
use Rattle.code.specs.declared.pair.Pair.{Pair}
use Rattle.sender.specs.Sender.{send_sender, view, well_formed}
use Rattle.sender.specs.Sending.{Sending, is_idle, send}
use Rattle.sender.specs.declared.drain.DrainError.{DrainError}
use Rattle.sender.specs.declared.drain.DrainError.TheVariants as drain_error
use Rattle.sender.specs.declared.sender.Sender.{Sender}

-- the pairs that are sent, by the limit of pairs and the bytes of room; a single last byte is no room
abbrev pub drained_pairs : ℕ → ℕ → Sending → List Pair
drained_pairs zero room s = []
drained_pairs (suc limit) zero s = []
drained_pairs (suc limit) (suc zero) s = []
drained_pairs (suc limit) (suc (suc room)) s = cond (is_idle s) [] ((send s).pair ∷ drained_pairs limit room (send s).next)

-- the state after n sends
abbrev pub send_sender_times : ℕ → Sender → Sender
send_sender_times zero s = s
send_sender_times (suc n) s = send_sender_times n (send_sender s).1

abbrev pub bytes_of_pairs : List Pair → List ℕ
bytes_of_pairs [] = []
bytes_of_pairs (p ∷ ps) = p.0 ∷ p.1 ∷ bytes_of_pairs ps

-- back: the first n pairs of some bytes, as far as there are whole ones
abbrev pub pairs_from : ℕ → List ℕ → List Pair
pairs_from zero bytes = []
pairs_from (suc n) [] = []
pairs_from (suc n) (a ∷ []) = []
pairs_from (suc n) (a ∷ b ∷ bytes) = pair a b ∷ pairs_from n bytes

-- a part with the pairs at its beginning, and after them what was there
abbrev pub filled : List ℕ → List Pair → List ℕ
filled part ps = bytes_of_pairs ps ++ drop (length (bytes_of_pairs ps)) part

-- the count of sends, the state after them, and the output with their bytes from the start on
abbrev pub drained : Sender → List ℕ → ℕ → List Pair → Outcome ℕ × Sender × List ℕ
drained s out start ps = (answer (length ps), send_sender_times (length ps) s, take start out ++ filled (drop start out) ps)

unfoldable pub drain_sender : Sender → List ℕ → ℕ → ℕ → Outcome ℕ × Sender × List ℕ
drain_sender s out start limit =
    cond (well_formed s)
    (cond (ltb (length out) start) (refused 11, s, out)
    (drained s out start (drained_pairs limit (length (drop start out)) (view s)))) (refused 12, s, out)

abbrev pub drain_refusal : DrainError → ℕ
drain_refusal drain_error.StartPastEnd = 11
drain_refusal drain_error.IllFormed = 12

abbrev pub drain_answer_outcome : Result ℕ DrainError → Outcome ℕ
drain_answer_outcome r = outcome drain_refusal r

abbrev pub drain_outcome : Sender × Result ℕ DrainError → List ℕ → Outcome ℕ × Sender × List ℕ
drain_outcome r out = (drain_answer_outcome r.1, r.0, out)
