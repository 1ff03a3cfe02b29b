-- `desktext::channels::is_close` meets its contract. Assumes nothing.
use mathlib.Core.Path.{sym}
use Rattle.desktext.specs.Work.{number_of}
use Rattle.desktext.proofs.Signed.{closes_other}
use Rattle.desktext.proofs.channels.is_close.Goals as goal

pub returns-in-Close : goal.returns-in-Close
unfolding number_of
returns-in-Close c = rw c.in-Close.is

pub returns-in_default : goal.returns-in_default
returns-in_default c = sym (closes_other _ c.in_default.not-Close)
