-- The number, a space, the event's words and the end of the line, each with the room that those before it leave.
use Rattle.std.proofs.Common.{◌∷◌, [], arith}
use lib.ListN.{length-append}
use Rattle.lines.proofs.Bounds.{eight_digits, event_short}
use Rattle.lines.proofs.Puts.{left, ◌then◌}
use Rattle.lines.specs.Words.{decimal, event_words}
use Rattle.lines.proofs.words.put_event_line.Goals as goal

pub put_one-requires : goal.put_one-requires
put_one-requires c =
    left 8 1 c.put_number.ensures (eight_digits c.args.number c.requires.0) (omega (arith, c.requires.1))

pub put_event-requires : goal.put_event-requires
put_event-requires c =
    let n = c.args.number in
    left 9 18 (c.put_number.ensures then c.put_one.ensures)
    (omega (arith, eight_digits n c.requires.0, length-append (decimal n) (0x20 ∷ []))) (omega (arith, c.requires.1))

pub put_one-requires-2 : goal.put_one-requires-2
put_one-requires-2 c =
    let n = c.args.number in
    let words = event_words c.args.event in
    left 41 1 (c.put_number.ensures then c.put_one.ensures then c.put_event.ensures)
    (omega (arith, eight_digits n c.requires.0, event_short c.args.event, length-append (decimal n) (0x20 ∷ words)))
    (omega (arith, c.requires.1))

pub returns : goal.returns
returns c = c.put_number.ensures then c.put_one.ensures then c.put_event.ensures then c.put_one-2.ensures
