-- `planner::one_bin::limits_for` meets its contract. Assumes nothing.
use mathlib.Core.Path.{sym, ap}
use Rattle.planner.proofs.Steps.{last_width}
use lib.Ieee.{of_bits}
use Rattle.tables.specs.Tables.{mant_bits}
use Rattle.tables.specs.Numbers.{mant_bits_table}
use Rattle.planner.specs.Work.{limits_of, limit_of}
use native.Mathlib.Omega.{arith}
use Rattle.planner.proofs.one_bin.limits_for.Goals as goal

pub returns-in-8 : goal.returns-in-8
unfolding limits_of limit_of mant_bits mant_bits_table of_bits
returns-in-8 c = sym (ap limits_of c.in-8.is)

pub returns-in-9 : goal.returns-in-9
unfolding limits_of limit_of mant_bits mant_bits_table of_bits
returns-in-9 c = sym (ap limits_of c.in-9.is)

pub returns-in-10 : goal.returns-in-10
unfolding limits_of limit_of mant_bits mant_bits_table of_bits
returns-in-10 c = sym (ap limits_of c.in-10.is)

pub returns-in-11 : goal.returns-in-11
unfolding limits_of limit_of mant_bits mant_bits_table of_bits
returns-in-11 c = sym (ap limits_of c.in-11.is)

pub returns-in-12 : goal.returns-in-12
unfolding limits_of limit_of mant_bits mant_bits_table of_bits
returns-in-12 c = sym (ap limits_of c.in-12.is)

pub returns-in-13 : goal.returns-in-13
unfolding limits_of limit_of mant_bits mant_bits_table of_bits
returns-in-13 c = sym (ap limits_of c.in-13.is)

pub returns-in-14 : goal.returns-in-14
unfolding limits_of limit_of mant_bits mant_bits_table of_bits
returns-in-14 c = sym (ap limits_of c.in-14.is)

pub returns-in-15 : goal.returns-in-15
unfolding limits_of limit_of mant_bits mant_bits_table of_bits
returns-in-15 c = sym (ap limits_of c.in-15.is)

pub returns-in_default : goal.returns-in_default
unfolding limits_of limit_of mant_bits mant_bits_table of_bits
returns-in_default c = sym (ap limits_of (last_width c.args.hebap (omega arith) (omega arith) (omega arith) (omega arith) (omega arith) (omega arith) (omega arith) (omega arith) (omega arith) (omega arith)))
