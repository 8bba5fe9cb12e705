-- An entry that has the character is a symbol's, since the entries after the symbols have none.
use Rattle.std.proofs.Common.{Some, None, ◌<◌, ap, ◌∙◌, arith}
use Rattle.code.proofs.First.{searched}
use Rattle.code.proofs.Lookup.{found_no_symbol, found_symbol, symbol_inside}
use Rattle.code.proofs.Numbers.{value_there, value_told}
use Rattle.code.specs.Symbol.{symbol_at}
use Rattle.code.specs.Outcome.{Outcome, answer}
use Rattle.code.specs.declared.code.Code.{Code}
use Rattle.code.specs.declared.code.Code.TheVariants as code
use Rattle.code.specs.declared.control.Control.TheVariants as control
use Rattle.code.specs.declared.symbol.Symbol.{Symbol}
use Rattle.code.proofs.code.Code.symbol_from_char.Goals as goal

pub overflow_cast-entry : goal.overflow_cast-entry
overflow_cast-entry c =
    let place = searched c.args.c _ _ (Some _) c.in-Some.ensures c.control_table-table.ensures in
    let less : c.in-Some.entry < 80 = symbol_inside c.args.c c.args.channel c.requires _ place in
    omega arith

pub unwrap-requires : goal.unwrap-requires
unwrap-requires c =
    let place = searched c.args.c _ _ (Some _) c.in-Some.ensures c.control_table-table.ensures in
    value_there 80 symbol_at _ _ (symbol_inside c.args.c c.args.channel c.requires _ place) c.try_from.ensures

pub returns-in-Some : goal.returns-in-Some
returns-in-Some c =
    let place = searched c.args.c _ _ (Some _) c.in-Some.ensures c.control_table-table.ensures in
    let inside = symbol_inside c.args.c c.args.channel c.requires _ place in
    ap {B = Outcome Code}
    (λ (s : Symbol). answer (code.Control (record { field = None; channel = c.args.channel; control = control.Symbol s })))
    (value_told 80 symbol_at _ _ _ inside c.try_from.ensures c.unwrap.ensures)
    ∙ found_symbol c.args.c c.args.channel c.requires _ place

pub returns-in-None : goal.returns-in-None
returns-in-None c =
    found_no_symbol c.args.c c.args.channel c.requires
    (searched c.args.c _ _ None c.in-None.ensures c.control_table-table.ensures)
