-- 0 is refused, a letter is one entry after its place, and the rest is the symbols' search.
use Rattle.std.proofs.Common.{None, Some, ap, ◌∙◌, arith}
use Rattle.code.proofs.First.{searched}
use Rattle.code.proofs.Lookup.{found_letter, found_no_letter, letter_inside, zero_has_no_code}
use Rattle.code.proofs.Numbers.{value_told}
use Rattle.code.specs.Letter.{letter_at}
use Rattle.code.specs.Outcome.{answer}
use Rattle.code.specs.declared.code.Code.TheVariants as code
use Rattle.code.specs.declared.letter.Letter.{Letter}
use Rattle.code.proofs.code.Code.from_char.Goals as goal

pub returns-then-c-eq0 : goal.returns-then-c-eq0
returns-then-c-eq0 c = rw c.if-c-eq0.true (zero_has_no_code _)

pub overflow_sub-entry : goal.overflow_sub-entry
overflow_sub-entry c =
    let place = searched c.args.c _ _ (Some _) c.in-Some.ensures c.code_table-table.ensures in
    let inside = letter_inside c.args.c c.args.channel c.if-c-eq0.false _ place in
    omega arith

pub overflow_cast-entry : goal.overflow_cast-entry
overflow_cast-entry c =
    let place = searched c.args.c _ _ (Some _) c.in-Some.ensures c.code_table-table.ensures in
    let inside = letter_inside c.args.c c.args.channel c.if-c-eq0.false _ place in
    omega arith

pub returns-in-Some : goal.returns-in-Some
returns-in-Some c =
    let place = searched c.args.c _ _ (Some _) c.in-Some.ensures c.code_table-table.ensures in
    let inside = letter_inside c.args.c c.args.channel c.if-c-eq0.false _ place in
    ap (λ (l : Letter). answer (code.Letter l)) (value_told 96 letter_at _ _ _ inside.1 c.try_from.ensures c.unwrap.ensures)
    ∙ found_letter c.args.c c.args.channel c.if-c-eq0.false _ place

pub returns-in-None : goal.returns-in-None
returns-in-None c =
    c.symbol_from_char.ensures
    ∙ found_no_letter c.args.c c.args.channel c.if-c-eq0.false
    (searched c.args.c _ _ None c.in-None.ensures c.code_table-table.ensures)
