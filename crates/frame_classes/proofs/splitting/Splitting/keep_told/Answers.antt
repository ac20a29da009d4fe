use Rattle.std.proofs.Common.{map, sym, ◌∙◌}
use Rattle.frame_rows.proofs.EntryRows.{on_ok}
use Rattle.frame_classes.specs.Told.{side_by}
use Rattle.frame_classes.proofs.Keeping.{leaf_every, leaf_more, not_shown, not_wanted, there_before, wanted_more}
use Rattle.frame_classes.proofs.splitting.Splitting.keep_told.Goals as goal
use Rattle.frame_classes.proofs.splitting.Splitting.keep_told.Goals.{then-has-via-then-has, then-has-via-else-has+then-not-is_shown}

pub returns-then-has-clause-every : goal.returns-then-has-clause-every
returns-then-has-clause-every c =
    let sides = map side_by c.args.self.now.sides.now.sides.now in
    elim c.then-has.branch [
      | then-has-via-then-has w ↦ there_before sides c.args.self.now.wanted c.args.self.now.least c.args.values c.args.told c.args.found.now.samples.items c.requires.eleven c.requires.classes
          c.has.ensures.fits c.requires.samples (c.has.ensures.there w.if-has.true)
      | then-has-via-else-has+then-not-is_shown w ↦ not_shown sides c.args.self.now.wanted c.args.self.now.least c.args.values c.args.found.now.samples.items c.requires.eleven
          (sym w.is_shown.ensures ∙ w.if-not-is_shown.true)
    ]

pub returns-clause-more : goal.returns-clause-more
returns-clause-more c =
    on_ok _ _ _ c.put.result c.put.ensures.fits c.put.ensures.items (λ fits grown.
    leaf_more (map side_by c.args.self.now.sides.now.sides.now) c.args.self.now.least c.args.values c.args.told c.args.found.now.samples.items
    c.put.new.self.samples.items c.requires.classes (sym c.is_shown.ensures ∙ c.if-not-is_shown.false) c.requires.values fits c.requires.samples c.requires.ascend grown)

pub returns-clause-every : goal.returns-clause-every
returns-clause-every c =
    on_ok _ _ _ c.put.result c.put.ensures.fits c.put.ensures.items (λ fits grown.
    leaf_every (map side_by c.args.self.now.sides.now.sides.now) c.args.self.now.wanted c.args.self.now.least c.args.values c.args.told c.args.found.now.samples.items
    c.put.new.self.samples.items c.requires.eleven c.requires.classes fits c.requires.samples grown)

pub returns-then-not-is_wanted-clause-every : goal.returns-then-not-is_wanted-clause-every
returns-then-not-is_wanted-clause-every c =
    not_wanted (map side_by c.args.self.now.sides.now.sides.now) c.args.self.now.wanted c.args.self.now.least c.args.values c.args.told
    c.args.found.now.samples.items c.requires.eleven c.requires.classes (sym c.is_wanted.ensures ∙ c.if-not-is_wanted.true)

pub returns-clause-wanted : goal.returns-clause-wanted
returns-clause-wanted c =
    on_ok _ _ _ c.put.result c.put.ensures.fits c.put.ensures.items (λ fits grown.
    wanted_more c.args.self.now.wanted c.args.values c.args.told c.args.found.now.samples.items c.put.new.self.samples.items
    (sym c.is_wanted.ensures ∙ c.if-not-is_wanted.false) grown)
