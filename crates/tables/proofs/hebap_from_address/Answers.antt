-- `tables::hebap_from_address` meets its contract. Assumes nothing.
use Rattle.tables.proofs.Address.{Known, known, too_low, too_high, psd_fits}
use Rattle.tables.proofs.hebap_from_address.Goals as goal
use Rattle.tables.proofs.hebap_from_address.Goals.{Else-mask_after_floor-gt65536}

taken : (c : Else-mask_after_floor-gt65536) → Known c.args.psd c.args.mask_after_floor
taken c =
    known c.args.psd c.args.mask_after_floor c.ranges.psd c.ranges.mask_after_floor c.if-mask_after_floor-lt-LEAST_MASK.false c.if-mask_after_floor-gt65536.false

pub returns-then-mask_after_floor-gt65536 : goal.returns-then-mask_after_floor-gt65536
returns-then-mask_after_floor-gt65536 c = too_high c.args.psd c.args.mask_after_floor c.ranges.mask_after_floor c.if-mask_after_floor-lt-LEAST_MASK.false c.if-mask_after_floor-gt65536.true

pub returns-then-address-gt63 : goal.returns-then-address-gt63
returns-then-address-gt63 c = (taken (goal.at.returns-then-address-gt63 c).Else-mask_after_floor-gt65536).beyond c.hebap_at-then-address-gt63.result c.hebap_at-then-address-gt63.ensures
    c.if-d-lt0.false c.if-address-gt63.true

pub returns : goal.returns
returns c = (taken (goal.at.returns c).Else-mask_after_floor-gt65536).inside c.hebap_at-2.result c.hebap_at-2.ensures
    c.if-d-lt0.false c.if-address-gt63.false

pub returns-then-mask_after_floor-lt-LEAST_MASK : goal.returns-then-mask_after_floor-lt-LEAST_MASK
returns-then-mask_after_floor-lt-LEAST_MASK c = too_low c.args.psd c.args.mask_after_floor c.ranges.mask_after_floor c.if-mask_after_floor-lt-LEAST_MASK.true

pub overflow_cast-d : goal.overflow_cast-d
overflow_cast-d c = psd_fits c.args.psd c.ranges.psd

pub overflow_sub-d : goal.overflow_sub-d
overflow_sub-d c = (taken c).fits

pub returns-then-d-lt0 : goal.returns-then-d-lt0
returns-then-d-lt0 c = (taken (goal.at.returns-then-d-lt0 c).Else-mask_after_floor-gt65536).below c.hebap_at.result c.hebap_at.ensures c.if-d-lt0.true

pub overflow_cast-address : goal.overflow_cast-address
overflow_cast-address c = (taken (goal.at.overflow_cast-address c).Else-mask_after_floor-gt65536).cast c.if-d-lt0.false
