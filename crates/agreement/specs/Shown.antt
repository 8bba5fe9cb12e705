-- What is shown depends on the accepted codes alone. How letters fall into pairs depends on when the sender is run: H that
-- is sent before i is pushed goes out as C8 80, and i as E9 80; both pushed first go out as C8 E9. So the events differ, and
-- their characters, one by one, do not. `ShownLaw` says what is shown: what each accepted code shows when it is sent alone.
-- `TwoRunsLaw`, at the end, says that two runs show the same. proofs/Shown.antt proves both.
use Rattle.std.specs.Prelude.{None, Option, Some, ℕ, Bool, true, false, cond, ◌&&◌, not, List, [], ◌∷◌, ◌++◌, ◌≡◌}
use Rattle.code.specs.Code.{needs_backspace}
use Rattle.code.specs.declared.channel.Channel.{Channel}
use Rattle.code.specs.declared.code.Code.{Code}
use Rattle.code.specs.declared.pair.Pair.{Pair}
use Rattle.event.specs.declared.event.Cea608.{Cea608}
use Rattle.event.specs.declared.event.Cea608.TheVariants as event
use Rattle.queue.specs.Made.{is_half_command}
use Rattle.queue.specs.Queue.{pair_of}
use Rattle.receiver.specs.Reading.{after, after_once, answers, events, read_once}
use Rattle.receiver.specs.Receiver.{fresh}
use Rattle.sender.specs.Calls.{Call, no_reset}
use Rattle.sender.specs.Sender.{fresh_sender}
use Rattle.agreement.specs.Agreement.{EndsIdle, Line, queue_pairs, sent_by}
use Rattle.agreement.specs.AnyFrameRate.{words}
use Rattle.agreement.specs.Doubled.{doubled}
use Rattle.agreement.specs.Pairs.{space_alone}
use Rattle.agreement.specs.QueuedCommands.{accepted_in}

-- a text of one character, or nothing where it is absent
abbrev pub one_character : Bool → Channel → Option ℕ → List Cea608
one_character marked ch None = []
one_character marked ch (Some c) =
    event.Text (record { needs_backspace = marked; char1 = Some c; char2 = None; channel = ch }) ∷ []

-- the characters of a text: the mark, that a character takes the place of the one before it, is the first one's
abbrev pub characters_of : Bool → Channel → Option ℕ → Option ℕ → List Cea608
characters_of marked ch None second = one_character marked ch second
characters_of marked ch (Some c) second = one_character marked ch (Some c) ++ one_character false ch second

-- an event with its characters one by one: any other than text is itself
abbrev pub by_character : Cea608 → List Cea608
by_character (event.Text t) = characters_of t.needs_backspace t.channel t.char1 t.char2
by_character (event.NewMode ch m) = event.NewMode ch m ∷ []
by_character (event.EraseDisplay ch) = event.EraseDisplay ch ∷ []
by_character (event.EraseNonDisplay ch) = event.EraseNonDisplay ch ∷ []
by_character (event.CarriageReturn ch) = event.CarriageReturn ch ∷ []
by_character (event.Backspace ch) = event.Backspace ch ∷ []
by_character (event.EndOfCaption ch) = event.EndOfCaption ch ∷ []
by_character (event.TabOffset ch n) = event.TabOffset ch n ∷ []
by_character (event.DeleteToEndOfRow ch) = event.DeleteToEndOfRow ch ∷ []
by_character (event.Preamble ch p) = event.Preamble ch p ∷ []
by_character (event.MidRowChange ch m) = event.MidRowChange ch m ∷ []

-- what events show: their characters one by one, and what is no text, in order
abbrev pub shown : List Cea608 → List Cea608
shown [] = []
shown (e ∷ es) = by_character e ++ shown es

-- a code that is sent alone: the pair that it is written as and, where it needs a backspace, a space before it
abbrev pub sent_alone : Code → List Pair
sent_alone c = cond (needs_backspace c) (space_alone ∷ pair_of c ∷ []) (pair_of c ∷ [])

abbrev pub each_alone : List Code → List Pair
each_alone [] = []
each_alone (c ∷ cs) = sent_alone c ++ each_alone cs

-- half a command makes a command of whatever shares its pair
abbrev pub no_half_command : List Code → Bool
no_half_command [] = true
no_half_command (c ∷ cs) = not (is_half_command c) && no_half_command cs

-- a run without a reset that ends idle, with no half command among the codes that it let in
pub record WholeRun (calls : List Call) : Type 0 where
  pub has_no_reset : no_reset calls ≡ true
  pub ends_idle : EndsIdle calls
  pub has_no_half_command : no_half_command (accepted_in calls) ≡ true

-- what a run puts on the line: what the sender sent, or the queue's pairs padded anew, each command doubled
pub data OnTheLine (calls : List Call) : List Pair → Type 0 where
  as_sent : OnTheLine calls (sent_by calls fresh_sender)
  padded_anew : (padded : List Pair) → words padded ≡ words (queue_pairs calls fresh_sender) → OnTheLine calls (doubled padded)

-- what arrived shows what the codes show, each sent alone and read once
pub record Shows (arrived : List Pair) (codes : List Code) : Type 0 where
  pub same_characters : shown (events (answers fresh arrived)) ≡ shown (events (read_once fresh (each_alone codes)))
  pub same_channel : (after fresh arrived).last_channel ≡ (after_once fresh (each_alone codes)).last_channel
  pub same_field : (after fresh arrived).last_received_field ≡ (after_once fresh (each_alone codes)).last_received_field

abbrev pub ShownLaw : Type 0
ShownLaw =
    (calls : List Call) (sent arrived : List Pair) → WholeRun calls → OnTheLine calls sent → Line sent arrived → Shows arrived (accepted_in calls)

-- what arrived of two runs shows the same
pub record ShowTheSame (arrived other : List Pair) : Type 0 where
  pub same_characters : shown (events (answers fresh arrived)) ≡ shown (events (answers fresh other))
  pub same_channel : (after fresh arrived).last_channel ≡ (after fresh other).last_channel
  pub same_field : (after fresh arrived).last_received_field ≡ (after fresh other).last_received_field

-- two runs that let in the same codes, whenever each pushed and sent, each padded anew or not and over its own line
abbrev pub TwoRunsLaw : Type 0
TwoRunsLaw =
    (calls calls' : List Call) (sent sent' arrived arrived' : List Pair) → WholeRun calls → WholeRun calls' → accepted_in calls ≡ accepted_in calls' → OnTheLine calls sent → OnTheLine calls' sent' → Line sent arrived → Line sent' arrived' → ShowTheSame arrived arrived'
