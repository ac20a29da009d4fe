use Rattle.std.proofs.Common.{List, ◌∷◌, map, subst, sym}
use Rattle.std.proofs.lemmas.List.{map-append}
use Rattle.vlan_rule.specs.declared.filter.TagFilter.{TagFilter}
use Rattle.vlan_rule.specs.declared.filter.VidFilter.{VidFilter}
use Rattle.rule_index.specs.Vids.{AreVids}
use Rattle.rule_index.proofs.Moving.{between-map}
use Rattle.rule_index.proofs.tag_masks.TagMasks.insert.Goals as goal

pub returns : goal.returns
returns c = λ before after between is.
    let keys = c.insert.ensures before after between is.keys in
    let vid : TagFilter → VidFilter = λ f. f.vid in
    let old = c.args.self.now.vids in
    let new = c.insert-2.new.self in
    let O : List VidFilter → Type 0 = λ fs. AreVids old.class.items old.masks.items fs in
    let N : List VidFilter → Type 0 = λ fs. AreVids new.class.items new.masks.items fs in
    record {
      keys = c.finish.ensures.keys _ keys;
      codes = c.finish.ensures.codes _ keys;
      vids = subst N (sym (map-append vid before (c.args.filter ∷ after)))
          (c.insert-2.ensures (map vid before) (map vid after) (between-map vid before after c.args.place between) (subst O (map-append vid before after) is.vids));
    }
