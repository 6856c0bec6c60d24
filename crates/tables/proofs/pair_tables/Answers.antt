-- `pair_tables` meets its contract: 13 by the room; else the two tables, put into the run one behind the other.
use Rattle.std.proofs.Common.{List, ap, length, sym, ℕ, ◌∙◌}
use Rattle.std.specs.List.{flat_map}
use lib.Seq.{paste}
use Rattle.causality.specs.Tables.{table_size}
use Rattle.rows.specs.View.{width}
use Rattle.tables.proofs.Filling.{enough, tables_filled}
use Rattle.tables.proofs.pair_tables.Goals as goal

pub returns : goal.returns
returns c =
    let t = c.count_pairs-tables in
    let out = c.args.out.now in
    record {
      answer = sym (enough width (length out) c.if-out.false);
      counts = λ bs s. tables_filled width _ _ _ _ out _ (t.ensures bs s).0 (t.ensures bs s).1 c.if-out.false
          (c.put-2.ensures ∙ ap (λ (x : List ℕ). paste x (table_size width) (flat_map (λ x. x) t.result.before) (table_size width)) c.put.ensures);
    }
