-- The agreement at any frame rate: the one rule of the customer's letter. "A field carries one byte pair, a film-rate master
-- has fewer fields than a broadcast tape, and the padding changes with every conversion. The words on the screen must not."
-- As playout does it: the queue's pairs are padded anew, each command is doubled and sent, and the line corrupts what the
-- letter allows. `AnyFrameRateLaw` at the end is the law; `at_any_frame_rate` in proofs/AnyFrameRate.antt proves it.
use Rattle.std.specs.Prelude.{cond, List, [], ◌∷◌, ◌≡◌}
use Rattle.code.specs.declared.pair.Pair.{Pair}
use Rattle.agreement.specs.Agreement.{Agreement, Line, queue_pairs}
use Rattle.agreement.specs.Doubled.{doubled}
use Rattle.agreement.specs.Pairs.{is_padding}
use Rattle.sender.specs.Calls.{Call}
use Rattle.sender.specs.Sender.{fresh_sender}

-- the words of pairs: all but the padding
abbrev pub words : List Pair → List Pair
words [] = []
words (p ∷ ps) = cond (is_padding p) (words ps) (p ∷ words ps)

-- of any calls, resets among them and idle at the end or not, and of any pairs that have the words of the queue's: padding
-- may have been put in and taken out anywhere
abbrev pub AnyFrameRateLaw : Type 0
AnyFrameRateLaw =
    (calls : List Call) (padded arrived : List Pair) → words padded ≡ words (queue_pairs calls fresh_sender) → Line (doubled padded) arrived → Agreement (queue_pairs calls fresh_sender) (doubled padded) arrived
