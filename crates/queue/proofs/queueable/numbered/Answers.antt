-- A command, by its control, and a byte of more than seven bits.
use Rattle.queue.proofs.Verdicts.{byte_refused, command_numbered}
use Rattle.queue.proofs.queueable.numbered.Goals as goal

pub returns-in-Control : goal.returns-in-Control
returns-in-Control c =
    command_numbered _ c.in-Control.command _ c.number_control.result c.map.result c.in-Control.is c.whose_number.ensures c.number_control.ensures c.map.ensures.cases

pub returns-else-byte-lt128 : goal.returns-else-byte-lt128
returns-else-byte-lt128 c = byte_refused _ _ c.in-Unknown.is c.if-byte-lt128.false
