-- Where all frames of a row end alike, whatever their priority is.
use Rattle.std.proofs.Common.{◌≡◌, ◌<◌, ℕ, zero, suc, true, List, [], ◌∷◌, Option, Some, None, arith, length}
use Rattle.std.specs.Prelude.{IfSome, slice_index_or}
use Rattle.std.specs.List.{list_all}
use Rattle.std.proofs.lemmas.Bool.{and_parts}
use Rattle.frame_meaning.specs.declared.reason.Reason.TheVariants.{NoMapper}
use Rattle.tag_view.specs.Dscp.{group_of}
use Rattle.frame_rows.specs.contracts.class.EndingPartialEq.TheImpl as EndingPartialEq
use Rattle.frame_rows.specs.declared.class.Ending.{Ending}
use Rattle.frame_rows.specs.declared.class.Ending.TheVariants.{Dropped}
use Rattle.frame_rows.specs.declared.row.Ends.{Ends}
use Rattle.frame_rows.specs.declared.row.Ends.TheVariants as ends
use Rattle.frame_rows.specs.Row.{ending_of}
use Rattle.frame_rows.specs.declared.field.Values.{Values}
use Rattle.frame_rows.specs.declared.source.DscpSource.{DscpSource}
use Rattle.frame_rows.specs.declared.source.Source.TheVariants.{Dscp}
use Rattle.frame_rows.specs.Source.{dscp_behind, mapped, priority_by}
use Rattle.frame_classes.proofs.Silent.{ending_is}

-- each is the same as one
pub each_same : (some : List Ending) (one other : Ending) → list_all (λ ending. (EndingPartialEq.eq-value).it ending one) some ≡ true
    → (priority : ℕ) → priority < length some → slice_index_or some priority other ≡ one
each_same [] one other h priority within = absurd (omega (arith, within))
each_same (first ∷ rest) one other h zero within =
    ending_is first one (and_parts ((EndingPartialEq.eq-value).it first one) (list_all (λ ending. (EndingPartialEq.eq-value).it ending one) rest) h).0
each_same (first ∷ rest) one other h (suc priority) within =
    each_same rest one other (and_parts ((EndingPartialEq.eq-value).it first one) (list_all (λ ending. (EndingPartialEq.eq-value).it ending one) rest) h).1
    priority (omega (arith, within))

-- a priority that doesn't stand in the row is under 8
small_group : (map : List ℕ) (dscp : ℕ) → group_of map dscp < 8
unfolding group_of
small_group map dscp = omega arith

small_mapped : (source : DscpSource) (dscp : Option ℕ) → source.without < 8 → mapped source dscp < 8
small_mapped source None h = h
small_mapped source (Some dscp) h = small_group source.map.0 dscp

-- so one end for all priorities is that by the DSCP
pub by_dscp : (some : List Ending) (how : Ends) (source : DscpSource) (all : Option Ending) → how ≡ ends.ByPriority (Dscp source) → source.without < 8
    → IfSome all (λ one. (priority : ℕ) → priority < 8 → slice_index_or some priority (Dropped NoMapper) ≡ one)
    → IfSome all (λ one. (values : Values) → ending_of some how values ≡ one)
by_dscp some how source None is small h = tt
by_dscp some how source (Some one) is small h = λ values. rw is (h (priority_by (Dscp source) values) (small_mapped source (dscp_behind source.tags values) small))
