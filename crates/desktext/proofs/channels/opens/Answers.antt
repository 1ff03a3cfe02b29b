-- `desktext::channels::opens` meets its contract. Assumes nothing.
use Rattle.desktext.proofs.Signed.{opens_other}
use Rattle.desktext.proofs.channels.opens.Goals as goal

pub returns-in_default : goal.returns-in_default
returns-in_default c = opens_other _ _ c.in_default.not-Open
