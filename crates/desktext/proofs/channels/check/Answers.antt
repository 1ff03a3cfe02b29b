-- `desktext::channels::check` meets its contract. Assumes nothing.
use native.Mathlib.Omega.{arith}
use Prim.Native.Nat.{◌+◌, ◌-◌}
use mathlib.Core.Path.{◌≡◌, refl, sym}
use lib.ListN.{length, length-map, get_or}
use Rattle.desktext.specs.declared.Token.{Token}
use Rattle.desktext.specs.declared.Token.TheVariants as token
use Rattle.desktext.specs.Spelling.{largest, last_number, bins_token, row_token}
use Rattle.desktext.specs.Printed.{AllIn}
use Rattle.desktext.specs.Channel.{missing, numbers, on_bins, on_row, channel_from}
use Rattle.desktext.specs.Work.{number_of, numbers_of, opening}
use Rattle.desktext.proofs.Signed.{in_bins, in_row}
use Rattle.desktext.proofs.ChannelTokens.{numbers_sole, vectors_sole}
use Rattle.desktext.proofs.Forms.{all_number, channel_empty, channel_other, channel_named, check_no_bins, check_uneven, check_bins, check_no_row, check_long, check_rest}
use Rattle.desktext.proofs.Outputs.{checks_nothing}
use Rattle.desktext.proofs.channels.check.Goals as goal
use Rattle.desktext.proofs.channels.check.Goals.{In_ok-bins, In_ok-row, then-row-gt256-via-then-row-gt256, then-row-gt256-via-else-row-gt256+then-not-are_vectors}

pub returns-in_err-first : goal.returns-in_err-first
returns-in_err-first c = checks_nothing c.from_residual.ensures (channel_empty _ c.in_err-first.ensures.cases)

pub returns-then-not-opens : goal.returns-then-not-opens
unfolding opening
returns-then-not-opens c = record { shown = sym (channel_other _ _ _ c.in_ok-first.ensures.cases.0 (sym c.if-not-opens.ensures)); fits = tt }

pub numbers-requires : goal.numbers-requires
numbers-requires c = in_bins

pub numbers-requires-2 : goal.numbers-requires-2
numbers-requires-2 c = in_row

-- the bins come first
begun : (c : In_ok-bins) → channel_from (numbers_of c.args.tokens.now) ≡ on_bins (numbers bins_token largest last_number (numbers_of c.in_ok-first.forms.now))
unfolding opening
begun c = channel_named _ _ _ c.in_ok-first.ensures.cases.0 (sym c.if-not-opens.ensures)

-- then the row
goes_on : (c : In_ok-bins) → length c.in_ok-bins.bins.now ≡ 2 → (d : Token) → let bins = c.in_ok-bins.bins.now in
    channel_from (numbers_of c.args.tokens.now) ≡ on_row (number_of (get_or bins 0 d) - largest) (number_of (get_or bins 1 d) - largest) (numbers row_token largest (largest + 255) (numbers_of c.in_ok-bins.forms.now))
unfolding opening number_of
goes_on c e d = check_bins _ _ (begun c) _ _ c.in_ok-bins.ensures e d

bins_within : (c : In_ok-bins) → AllIn largest last_number (numbers_of c.in_ok-bins.bins.now)
unfolding opening number_of
bins_within c = (numbers_sole bins_token largest last_number _ _ _ (sym c.in_ok-bins.ensures)).1

pub returns-in_err-bins : goal.returns-in_err-bins
unfolding opening number_of
returns-in_err-bins c =
    let h = channel_named _ _ _ c.in_ok-first.ensures.cases.0 (sym c.if-not-opens.ensures) in
    checks_nothing c.from_residual-in_err-bins.ensures (check_no_bins _ _ h c.in_err-bins.ensures)

pub returns-then-bins-ne2 : goal.returns-then-bins-ne2
unfolding opening number_of
returns-then-bins-ne2 c =
    record { shown = sym (check_uneven _ _ (begun (goal.at.returns-then-bins-ne2 c).In_ok-bins) _ _ c.in_ok-bins.ensures c.if-bins-ne2.true); fits = tt }

pub returns-in_err-row : goal.returns-in_err-row
unfolding opening number_of
returns-in_err-row c =
    checks_nothing c.from_residual-in_err-row.ensures (check_no_row _ _ _ _ (goes_on (goal.at.returns-in_err-row c).In_ok-bins c.if-bins-ne2.false token.Close) c.in_err-row.ensures)

pub returns-then-row-gt256 : goal.returns-then-row-gt256
unfolding opening number_of
returns-then-row-gt256 c =
    let on = goes_on (goal.at.returns-then-row-gt256 c).In_ok-bins c.if-bins-ne2.false token.Close in
    record {
      shown = sym (elim c.then-row-gt256.branch [
        | then-row-gt256-via-then-row-gt256 w ↦ check_long _ _ _ _ on _ _ c.in_ok-row.ensures w.if-row-gt256.true
        | then-row-gt256-via-else-row-gt256+then-not-are_vectors w ↦ check_rest _ _ _ _ on _ _ c.in_ok-row.ensures w.if-row-gt256.false missing w.if-not-are_vectors.ensures.shown
      ]);
      fits = tt;
    }

pub size-requires : goal.size-requires
size-requires c = all_number largest last_number c.in_ok-bins.bins.now 0 _ (bins_within (goal.at.size-requires c).In_ok-bins) (omega (arith, c.if-bins-ne2.false))

pub size-requires-2 : goal.size-requires-2
size-requires-2 c = all_number largest last_number c.in_ok-bins.bins.now 1 _ (bins_within (goal.at.size-requires-2 c).In_ok-bins) (omega (arith, c.if-bins-ne2.false))

pub returns : goal.returns
unfolding opening number_of
returns c =
    let on = goes_on (goal.at.returns c).In_ok-bins c.if-bins-ne2.false _ in
    let few = c.if-row-gt256.false in
    let w = c.if-not-are_vectors.ensures in
    let l = length-map c.in_ok-row.vectors.now number_of in
    let shown = check_rest _ _ _ _ on _ _ c.in_ok-row.ensures few _ w.shown in
    record {
      shown = rw (c.size.ensures, c.size-2.ensures) (sym shown);
      fits = (refl, (few, (numbers_sole row_token largest (largest + 255) _ _ _ (sym c.in_ok-row.ensures)).1), (omega (arith, w.within), (vectors_sole _ _ _ _ (sym w.shown)).3));
    }
