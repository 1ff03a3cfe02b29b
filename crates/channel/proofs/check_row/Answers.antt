-- `channel::check_row` meets its contract. Assumes nothing.
use mathlib.Core.Path.{sym, ◌∙◌}
use mathlib.Core.Bool.{true, false}
use Rattle.channel.proofs.Rows.{cause_1, cause_2, cause_3_row, cause_3_other, cause_4_or_none}
use Rattle.channel.proofs.check_row.Goals as goal

pub returns-then-end-start : goal.returns-then-end-start
returns-then-end-start c = let s = c.args in rw (cause_1 s.row.now s.start s.end s.short c.if-end-start.true)

pub returns-then-end-gt256 : goal.returns-then-end-gt256
returns-then-end-gt256 c = let s = c.args in rw (cause_2 s.row.now s.start s.end s.short c.if-end-start.false c.if-end-gt256.true)

pub returns-then-row-end : goal.returns-then-row-end
returns-then-row-end c = let s = c.args in rw (cause_3_row s.row.now s.start s.end s.short c.if-end-start.false c.if-end-gt256.false c.if-row-end.true)

pub returns-then-short : goal.returns-then-short
returns-then-short c = let s = c.args in
    rw (cause_3_other s.row.now s.start s.end s.short c.if-end-start.false c.if-end-gt256.false c.if-row-end.false c.if-short.true)

pub returns-then-any_unknown : goal.returns-then-any_unknown
returns-then-any_unknown c = let s = c.args in
    rw (cause_4_or_none s.row.now s.start s.end s.short c.if-end-start.false c.if-end-gt256.false c.if-row-end.false true c.if-short.false
    (sym c.any_unknown.ensures ∙ c.if-any_unknown.true))

pub returns : goal.returns
returns c = let s = c.args in
    rw (cause_4_or_none s.row.now s.start s.end s.short c.if-end-start.false c.if-end-gt256.false c.if-row-end.false false c.if-short.false
    (sym c.any_unknown.ensures ∙ c.if-any_unknown.false))
