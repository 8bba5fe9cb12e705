-- The number is none of those that want a space, and the law of the bits says that there are no others.
use Rattle.std.proofs.Common.{ℕ, ◌/◌, ◌%◌, refl, sym, ◌∙◌, arith}
use borrow.Author.Tests.{ne_eqb}
use Rattle.queue.proofs.Numbered.{backspace_told}
use Rattle.queue.proofs.number.needs_backspace.Goals as goal

pub returns-in_default : goal.returns-in_default
returns-in_default c =
    let d : ℕ = c.args.number % 0x1000 / 16 in
    sym
    (backspace_told c.args.number c.requires
    ∙ rw (
      ne_eqb d 0x0A (λ is. omega (arith, is)),
      ne_eqb d 0x12 (λ is. omega (arith, is)),
      ne_eqb d 0x13 (λ is. omega (arith, is)),
      ne_eqb d 0x1A (λ is. omega (arith, is)),
      ne_eqb d 0x1B (λ is. omega (arith, is)),
    ) refl)
