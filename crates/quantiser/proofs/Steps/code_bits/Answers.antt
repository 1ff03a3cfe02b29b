-- `quantiser::Steps::code_bits` meets its contract. Assumes nothing.
use Rattle.std.proofs.Common.{arith}
use Rattle.quantiser.proofs.Fixed.{fixed}
use Rattle.quantiser.proofs.Steps.code_bits.Goals as goal

pub overflow_add-result : goal.overflow_add-result
overflow_add-result c = let f = fixed c.args.self.now in record { fits = omega arith }
