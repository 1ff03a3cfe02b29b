-- A call of `pages::put_number` within it has one place less.
use lib.ListN.{length}
use Rattle.pages.proofs.+put_number.Given as goal

abbrev pub decreases-put_number : goal.decreases-put_number
decreases-put_number l = length l.out.now
