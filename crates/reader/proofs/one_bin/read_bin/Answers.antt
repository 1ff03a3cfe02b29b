-- `reader::one_bin::read_bin` meets its contract. Assumes nothing.
use mathlib.Core.Path.{refl, sym, ◌∙◌}
use Rattle.bits.proofs.Taking.{takes_got}
use Rattle.gains.specs.declared.Coding.{Coding}
use Rattle.channel.specs.Field.{nothing}
use Rattle.channel.proofs.Codings.{coded_bin}
use Rattle.reader.proofs.one_bin.read_bin.Goals as goal

pub read_index-requires-clause-le_hebap : goal.read_index-requires-clause-le_hebap
read_index-requires-clause-le_hebap c = (coded_bin c.args.mode c.args.hebap c.args.gk Coding.Book c.requires.hebap_bound (sym c.coding_of.ensures ∙ c.in-Book.is)).0

pub scale_at-requires : goal.scale_at-requires
scale_at-requires c = ((coded_bin c.args.mode c.args.hebap c.args.gk Coding.Fixed c.requires.hebap_bound (sym c.coding_of.ensures ∙ c.in-Fixed.is)).0, c.requires.hebap_bound)

pub scale_at-requires-in-Adaptive : goal.scale_at-requires-in-Adaptive
scale_at-requires-in-Adaptive c = ((coded_bin c.args.mode c.args.hebap c.args.gk Coding.Adaptive c.requires.hebap_bound (sym c.coding_of.ensures ∙ c.in-Adaptive.is)).0, c.requires.hebap_bound)

pub returns-in-Nothing : goal.returns-in-Nothing
returns-in-Nothing c = rw (coded_bin c.args.mode c.args.hebap c.args.gk Coding.Nothing c.requires.hebap_bound (sym c.coding_of.ensures ∙ c.in-Nothing.is)).1
    (takes_got _ _ _ _ _ nothing refl refl c.put_zeros.ensures)

pub returns-in-Book : goal.returns-in-Book
returns-in-Book c = rw (coded_bin c.args.mode c.args.hebap c.args.gk Coding.Book c.requires.hebap_bound (sym c.coding_of.ensures ∙ c.in-Book.is)).1 c.read_index.ensures

pub returns-in-Fixed : goal.returns-in-Fixed
returns-in-Fixed c =
    let n = c.scale_at.ensures in
    rw (coded_bin c.args.mode c.args.hebap c.args.gk Coding.Fixed c.requires.hebap_bound (sym c.coding_of.ensures ∙ c.in-Fixed.is)).1 (rw (n.0, n.1) at c.read_codes.ensures)

pub returns-in-Adaptive : goal.returns-in-Adaptive
returns-in-Adaptive c =
    let n = c.scale_at-in-Adaptive.ensures in
    rw (coded_bin c.args.mode c.args.hebap c.args.gk Coding.Adaptive c.requires.hebap_bound (sym c.coding_of.ensures ∙ c.in-Adaptive.is)).1 (rw (n.0, n.1) at c.read_codes-in-Adaptive.ensures)
