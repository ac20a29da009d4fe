use Rattle.std.proofs.Common.{◌≡◌, ℕ, ◌∙◌, List, ap, arith, map, sym}
use Rattle.tag_view.specs.Word.{tag_of}
use Rattle.rule_index.specs.Head.{FrameHead, last_tags}
use Rattle.rule_index.specs.declared.row.Row.{Row}
use Rattle.rule_index.specs.Filters.{inner_in, outer_in}
use Rattle.rule_index.specs.Masks.{mask_of}
use Rattle.rule_index.specs.Order.{row_matches}
use Rattle.rule_index.proofs.Joined.{kind-at, no-tag-mask, one-tag-mask, two-tag-mask}
use Rattle.rule_index.proofs.masks.Masks.mask.Goals as goal

-- the rows for the head that a number of tags and two words are
by_number : (rows : List Row) (input outer inner type n m : ℕ) (head : FrameHead)
    → m ≡ n
    → record { tags = last_tags m (tag_of outer) (tag_of inner); type = type } ≡ head
    → mask_of (λ row. row_matches input (last_tags n (tag_of outer) (tag_of inner)) type row) rows
    ≡ mask_of (λ row. row_matches input head.tags head.type row) rows
by_number rows input outer inner type n m head is view =
    let by : FrameHead → ℕ = λ h. mask_of (λ row. row_matches input h.tags h.type row) rows in
    ap (λ k. mask_of (λ row. row_matches input (last_tags k (tag_of outer) (tag_of inner)) type row) rows) (sym is) ∙ ap by view

pub returns-in-0 : goal.returns-in-0
returns-in-0 c = λ rows is.
    let head = c.head.inside in
    no-tag-mask c.mask.result rows c.args.input_tpid head.ethertype
    (c.mask.ensures ∙ kind-at c.args.self.now.kinds.joined rows 0 head.ethertype c.type_class-class.result (omega arith) is.kinds c.type_class-class.ensures.value)
    ∙ by_number rows c.args.input_tpid head.outer head.inner head.ethertype 0 head.tags c.args.head.now c.in-0.is c.head.view_is

pub returns-in-1 : goal.returns-in-1
returns-in-1 c = λ rows is.
    let head = c.head.inside in
    one-tag-mask c.mask-in-1.result c.mask-in-1-2.result rows c.args.input_tpid head.ethertype (tag_of head.inner)
    (c.mask-in-1.ensures ∙ kind-at c.args.self.now.kinds.joined rows 1 head.ethertype c.type_class-class.result (omega arith) is.kinds c.type_class-class.ensures.value)
    (c.mask-in-1-2.ensures (map (λ (row : Row). inner_in row.filter) rows) is.inner)
    ∙ by_number rows c.args.input_tpid head.outer head.inner head.ethertype 1 head.tags c.args.head.now c.in-1.is c.head.view_is

pub returns-in_default : goal.returns-in_default
returns-in_default c = λ rows is.
    let head = c.head.inside in
    let two : head.tags ≡ 2 = omega (arith, c.head.invariant.0, c.in_default) in
    two-tag-mask c.mask-in_default.result c.mask-in_default-2.result c.mask-in_default-3.result rows c.args.input_tpid head.ethertype (tag_of head.outer) (tag_of head.inner)
    (c.mask-in_default.ensures ∙ kind-at c.args.self.now.kinds.joined rows 2 head.ethertype c.type_class-class.result (omega arith) is.kinds c.type_class-class.ensures.value)
    (c.mask-in_default-2.ensures (map (λ (row : Row). outer_in row.filter) rows) is.outer)
    (c.mask-in_default-3.ensures (map (λ (row : Row). inner_in row.filter) rows) is.inner)
    ∙ by_number rows c.args.input_tpid head.outer head.inner head.ethertype 2 head.tags c.args.head.now two c.head.view_is
