use Rattle.std.proofs.Common.{ℕ, List, subst, sym}
use Rattle.rule_index.specs.Kinds.{AreTags, AreTypes}
use Rattle.rule_index.proofs.masks.Masks.rebuild.Goals as goal

pub returns : goal.returns
returns c =
    let rows = c.args.rows.now in
    let by_tags : List ℕ → Type 0 = λ masks. AreTags masks rows in
    let by_types : List ℕ → Type 0 = λ masks. AreTypes masks rows in
    record {
      tags = subst by_tags (sym c.finish.ensures.tags) c.group.ensures.tags;
      types = subst by_types (sym c.finish.ensures.types) c.group.ensures.types;
      kinds = c.finish.ensures.kinds rows c.group.ensures.tags c.group.ensures.types;
      outer = c.finish-2.ensures _ c.group.ensures.outer;
      inner = c.finish-3.ensures _ c.group.ensures.inner;
    }
