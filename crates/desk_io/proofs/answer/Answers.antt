-- The text is what the reader gave, or longer than a text may be, and what is written is the front of the output.
use Rattle.std.proofs.Common.{rules}
use Rattle.desk_io.proofs.Whole.{answered, on_ok}
use Rattle.desk_io.proofs.answer.Goals as goal

pub returns-clause-answered : goal.returns-clause-answered
returns-clause-answered g c =
    on_ok c.write_all.result c.map_err.result c.map_err.ensures.variant
    (λ written. answered c.args.view _ _ (g.W.Write.contents c.args.writer.now) (g.W.Write.contents c.write_all.new.self) _ _ (search rules) c.in-Ok.ensures.front
    c.desk_from-k.ensures.value c.desk_from-k.ensures.out_after written)
    c.write_all.ensures.bytes
