-- What the tables of ATSC A/52 Annex E, section 3.4, say of a hebap. docs/FORMAT.md, Tables and 'Small ports'.
use Rattle.std.specs.Prelude.{ℕ, ◌+◌, ◌-◌, ◌*◌, ◌/◌, min, List, [], cond, ◌||◌, eqb, ℤ, pos, negsuc, neg_ℤ, ◌-ℤ◌, get_or, Result, Ok, Err}
use Rattle.std.specs.Int.Signed.{lt_z}
use Rattle.tables.specs.Numbers.{hebaptab, mant_bits_table, vq_bits_table, gaq_remap_table, vq_hebap1, vq_hebap2, vq_hebap3, vq_hebap4, vq_hebap5, vq_hebap6, vq_hebap7}
use Rattle.answers.specs.declared.Refusal.{Refusal}
use Rattle.answers.specs.declared.Refusal.TheVariants.{OutOfRange}

-- m, the bits of a scalar mantissa (HEBAP_MANT_BITS, Table E3.2); 0 where hebap is not 8 to 19
unfoldable pub mant_bits : ℕ → ℕ
mant_bits h = get_or mant_bits_table h 0

-- the bits of a book's index (VQ_BITS, Table E3.2); 0 where hebap is not 1 to 7
unfoldable pub vq_bits : ℕ → ℕ
vq_bits h = get_or vq_bits_table h 0

-- the numbers of GAQ_REMAP (Table E3.6), by hebap from 8 and column: 0 is a at Gk 1;
-- 1, 2, 3 are a, b for x ≥ 0 and b for x < 0 at Gk 2; 4, 5, 6 are the same at Gk 4
unfoldable pub gaq_remap_at : ℕ → ℕ → ℤ
gaq_remap_at h column = get_or gaq_remap_table ((h - 8) * 7 + column) (pos 0)

-- the book of a hebap (Tables E4.1 to E4.7), six numbers a vector; none where hebap is not 1 to 7
unfoldable pub book : ℕ → List ℤ
book h =
    cond (eqb h 1) vq_hebap1
    (cond (eqb h 2) vq_hebap2
    (cond (eqb h 3) vq_hebap3
    (cond (eqb h 4) vq_hebap4
    (cond (eqb h 5) vq_hebap5
    (cond (eqb h 6) vq_hebap6
    (cond (eqb h 7) vq_hebap7 []))))))

-- 3.4.3.1: address = (psd - mask) >> 5, clamped to 0 to 63; a negative difference stays negative when shifted
abbrev pub address : ℤ → ℕ
address (pos d) = min 63 (d / 32)
address (negsuc d) = 0

-- hebaptab at the address; 12 where the mask is outside -65536 to 65536
unfoldable pub hebap_from_address : ℤ → ℤ → Result ℕ Refusal
hebap_from_address psd mask =
    cond (lt_z mask (neg_ℤ (pos 65536)) || lt_z (pos 65536) mask) (Err OutOfRange)
    (Ok (get_or hebaptab (address (psd -ℤ mask)) 0))
