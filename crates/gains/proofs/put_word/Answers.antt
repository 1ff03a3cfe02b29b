-- `gains::put_word` meets its contract. Assumes nothing.
use mathlib.Core.Path.{◌∙◌}
use mathlib.Core.List.{◌∷◌, []}
use Rattle.gains.specs.Gains.{word_codes}
use Rattle.gains.proofs.Laws.{filled_start, filled_more, filled_as, group_codes_lem, single_code}
use Rattle.gains.proofs.put_word.Goals as goal

pub returns-then-gaqmod-eq3 : goal.returns-then-gaqmod-eq3
returns-then-gaqmod-eq3 c = let a = c.args in
    let w = a.word in
    let h = c.requires.k_in_bounds in
    let e = c.unpack-c.ensures in
    let f1 = filled_more (c.unpack-c.result.first ∷ []) c.put_code-a.new.out c.put_code-a.result h (filled_start a.out.now a.k h) c.put_code-a.ensures.value c.put_code-a.ensures.out_after in
    let f2 = filled_more (c.unpack-c.result.second ∷ []) c.put_code-b.new.out c.put_code-b.result h f1 c.put_code-b.ensures.value c.put_code-b.ensures.out_after in
    let f3 = filled_more (c.unpack-c.result.third ∷ []) c.put_code.new.out c.put_code.result h f2 c.put_code.ensures.value c.put_code.ensures.out_after in let both = filled_as (word_codes a.gaqmod w) (group_codes_lem a.gaqmod w c.if-gaqmod-eq3.true ∙ rw e) f3 in record { value = both.0; out_after = both.1 }

pub returns : goal.returns
returns c = let a = c.args in
    let h = c.requires.k_in_bounds in
    let f = filled_more (a.word ∷ []) c.put_code-2.new.out c.put_code-2.result h (filled_start a.out.now a.k h) c.put_code-2.ensures.value c.put_code-2.ensures.out_after in let both = filled_as (word_codes a.gaqmod a.word) (single_code a.gaqmod a.word c.if-gaqmod-eq3.false) f in record { value = both.0; out_after = both.1 }
