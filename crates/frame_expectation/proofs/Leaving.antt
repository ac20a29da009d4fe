-- A frame that leaves, and the bytes that are wanted of it.
use Rattle.std.proofs.Common.{◌≡◌, ◌≤◌, ◌-◌, ℕ, suc, arith, get_or, length, nat_eq, Bool, true, false, ◌&&◌, List, [], ◌∷◌, ◌++◌, Option, Some, None, Ok, Err, refl, ap, sym, subst, ◌∙◌}
use Rattle.std.specs.Prelude.{Result}
use Rattle.std.specs.List.{flat_map}
use Rattle.std.specs.Str.{bytes_eq}
use Rattle.std.proofs.lemmas.Bool.{true≢false}
use Rattle.std.proofs.lemmas.List.{append_cancel_left, append_cancel_right}
use Rattle.std.proofs.lemmas.Slice.Eq.{bytes_eq-Decides}
use Rattle.tag_view.specs.declared.fault.FrameFault.{FrameFault}
use Rattle.tag_view.specs.Tag.{TagFields, tag_bytes}
use Rattle.tag_view.specs.Frame.{Reading, Reads, fault_of, frame_bytes, frame_of, reading_of}
use Rattle.tag_view.specs.Dscp.{dscp_of}
use Rattle.tag_view.proofs.Readings.{frame_read, frame_refused}
use Rattle.vlan_rule.specs.declared.settings.TableSettings.{TableSettings}
use Rattle.mib_state.specs.Entities.{Entities}
use Rattle.frame_meaning.specs.declared.reason.Reason.{Reason}
use Rattle.frame_meaning.specs.declared.verdict.Verdict.{Verdict}
use Rattle.frame_meaning.specs.declared.verdict.Verdict.TheVariants.{Forward, Drop}
use Rattle.frame_meaning.specs.Meaning.{Table, forwarded_by, found_then, gem_port_at, input_tpid_of, meaning, table_at, tags_at, verdict_of}
use Rattle.frame_expectation.specs.declared.wanted.WantedRetag.{WantedRetag}
use Rattle.frame_expectation.specs.declared.wanted.WantedTreatment.{WantedTreatment}
use Rattle.frame_expectation.specs.declared.wanted.WantedTreatment.TheVariants as treatment
use Rattle.frame_expectation.specs.declared.expectation.Expectation.{Expectation}
use Rattle.frame_expectation.specs.Filter.{inner_tag}
use Rattle.frame_expectation.specs.Wanted.{bytes_wanted, ends_as, leaves_with, settings_by, tags_alike, tags_wanted}
use Rattle.frame_expectation.specs.Expectation.{meets_by}

-- ---- bytes that are compared

-- two tests are one that say each other
same_test : (one other : Bool) → (one ≡ true → other ≡ true) → (other ≡ true → one ≡ true) → one ≡ other
same_test true other to from = sym (to refl)
same_test false true to from = from refl
same_test false false to from = refl

-- between the same bytes
pub between : (front one other behind : List ℕ) → bytes_eq one other ≡ bytes_eq (front ++ (one ++ behind)) (front ++ (other ++ behind))
between front one other behind =
    let inner = bytes_eq-Decides one other in
    let outer = bytes_eq-Decides (front ++ (one ++ behind)) (front ++ (other ++ behind)) in
    same_test (bytes_eq one other) (bytes_eq (front ++ (one ++ behind)) (front ++ (other ++ behind)))
    (λ h. outer.1 (ap (λ (x : List ℕ). front ++ (x ++ behind)) (inner.0 h)))
    (λ h. inner.1 (append_cancel_right one other behind (append_cancel_left front (one ++ behind) (other ++ behind) (outer.0 h))))

and_assoc : (a b c : Bool) → ((a && b) && c) ≡ (a && (b && c))
and_assoc true b c = refl
and_assoc false b c = refl

-- bytes of one length in front
in_front : (x y xs ys : List ℕ) → length x ≡ length y → (bytes_eq x y && bytes_eq xs ys) ≡ bytes_eq (x ++ xs) (y ++ ys)
in_front [] [] xs ys h = refl
in_front [] (b ∷ y) xs ys h = absurd (omega arith)
in_front (a ∷ x) [] xs ys h = absurd (omega arith)
in_front (a ∷ x) (b ∷ y) xs ys h =
    let rest : length x ≡ length y = omega arith in
    and_assoc (nat_eq a b) (bytes_eq x y) (bytes_eq xs ys) ∙ ap (λ (t : Bool). nat_eq a b && t) (in_front x y xs ys rest)

-- tag by tag
pub by_tags : (tags others : List TagFields) → tags_alike tags others ≡ bytes_eq (flat_map tag_bytes tags) (flat_map tag_bytes others)
by_tags [] [] = refl
by_tags [] (other ∷ others) = refl
by_tags (tag ∷ tags) [] = refl
by_tags (tag ∷ tags) (other ∷ others) =
    ap (λ (b : Bool). bytes_eq (tag_bytes tag) (tag_bytes other) && b) (by_tags tags others)
    ∙ in_front (tag_bytes tag) (tag_bytes other) (flat_map tag_bytes tags) (flat_map tag_bytes others) refl

-- those that are alike are as many
same_length : (tags others : List TagFields) → tags_alike tags others ≡ true → length tags ≡ length others
same_length [] [] h = refl
same_length [] (other ∷ others) h = absurd (true≢false (sym h))
same_length (tag ∷ tags) [] h = absurd (true≢false (sym h))
same_length (tag ∷ tags) (other ∷ others) h =
    ap suc (same_length tags others (and_right (bytes_eq (tag_bytes tag) (tag_bytes other)) (tags_alike tags others) h))
  where
    and_right : (a b : Bool) → (a && b) ≡ true → b ≡ true
    and_right true b h = h
    and_right false b h = absurd (true≢false (sym h))

pub not_as_many : (tags others : List TagFields) → (length tags ≡ length others → ⊥) → false ≡ tags_alike tags others
not_as_many tags others apart = by_case (tags_alike tags others) refl
  where
    by_case : (b : Bool) → tags_alike tags others ≡ b → false ≡ tags_alike tags others
    by_case true is = absurd (apart (same_length tags others is))
    by_case false is = sym is

-- ---- the inner tag

pub last_is_inner : (tags : List TagFields) (d : TagFields) → 1 ≤ length tags → Some (get_or tags (length tags - 1) d) ≡ inner_tag tags
last_is_inner [] d some = absurd (omega arith)
last_is_inner (tag ∷ []) d some = refl
last_is_inner (tag ∷ next ∷ rest) d some =
    let place : length (tag ∷ next ∷ rest) - 1 ≡ suc (length (next ∷ rest) - 1) = omega arith in
    rw place (last_is_inner (next ∷ rest) d (omega arith))

-- ---- a frame that leaves

-- it was read
pub read_is : (input : ℕ) (bytes : List ℕ) (frame : Reading) → frame_of input bytes ≡ Ok frame → reading_of input bytes ≡ frame
read_is input bytes frame is = by_fault (fault_of input bytes) refl
  where
    by_fault : (fault : Option FrameFault) → fault_of input bytes ≡ fault → reading_of input bytes ≡ frame
    by_fault None none =
        let computed : frame_of input bytes ≡ Ok (reading_of input bytes) = frame_read input bytes (reading_of input bytes) none refl in
        cc
    by_fault (Some fault) some =
        let refused : frame_of input bytes ≡ Err fault = frame_refused input bytes fault some in
        cc

-- one that can't be read is dropped
pub not_read : (e : Entities) (port gem : ℕ) (bytes : List ℕ) (out : Reading) (fault : FrameFault)
    → frame_of (input_tpid_of (table_at e port)) bytes ≡ Err fault → meaning e port bytes ≡ Forward gem out → ⊥
unfolding meaning forwarded_by
not_read e port gem bytes out fault refused leaves =
    let dropped = rw refused at leaves in
    cc

-- it leaves with its addresses and its rest
leaves_as : (e : Entities) (port gem : ℕ) (frame out : Reading) (tags : Result (List TagFields) Reason)
    → verdict_of (found_then tags (λ tags. found_then (gem_port_at e port tags (dscp_of frame.rest)) (λ gem. Ok (gem, record frame { tags = tags }))))
    ≡ Forward gem out
    → out ≡ record frame { tags = out.tags }
leaves_as e port gem frame out (Err reason) is = cc
leaves_as e port gem frame out (Ok tags) is = by_gem (gem_port_at e port tags (dscp_of frame.rest)) is
  where
    by_gem : (found : Result ℕ Reason) → verdict_of (found_then found (λ gem. Ok (gem, record frame { tags = tags }))) ≡ Forward gem out
        → out ≡ record frame { tags = out.tags }
    by_gem (Err reason) h = cc
    by_gem (Ok number) h =
        let P : Reading → Type 0 = λ o. o ≡ record frame { tags = o.tags } in
        let sent : record frame { tags = tags } ≡ out = cc in
        subst P sent refl

pub leaves_whole : (e : Entities) (port gem : ℕ) (bytes : List ℕ) (frame out : Reading) → frame_of (input_tpid_of (table_at e port)) bytes ≡ Ok frame
    → meaning e port bytes ≡ Forward gem out → out ≡ record frame { tags = out.tags }
unfolding meaning forwarded_by
leaves_whole e port gem bytes frame out read leaves =
    let sent = rw read at leaves in
    leaves_as e port gem frame out (tags_at (table_at e port) frame) sent

-- with the bytes of a frame of these tags, where its tags have theirs
pub alike_bytes : (frame out : Reading) (tags : List TagFields) → out ≡ record frame { tags = out.tags }
    → tags_alike out.tags tags ≡ bytes_eq (frame_bytes out) (frame_bytes (record frame { tags = tags }))
alike_bytes frame out tags is =
    by_tags out.tags tags
    ∙ between frame.addresses (flat_map tag_bytes out.tags) (flat_map tag_bytes tags) frame.rest
    ∙ ap (λ (o : Reading). bytes_eq (frame_bytes o) (frame_bytes (record frame { tags = tags }))) (sym is)

-- with the bytes that it came with, where its tags have those of the received ones
pub unchanged_bytes : (input : ℕ) (bytes : List ℕ) (frame out : Reading) → Reads bytes input frame.addresses frame.tags frame.rest
    → out ≡ record frame { tags = out.tags } → tags_alike out.tags frame.tags ≡ bytes_eq (frame_bytes out) bytes
unchanged_bytes input bytes frame out reads is =
    alike_bytes frame out frame.tags is ∙ ap (λ (x : List ℕ). bytes_eq (frame_bytes out) x) (sym reads.spelling)

-- ---- what is wanted of it

-- the bytes that it came with
pub unchanged_wanted : (e : Entities) (port gem input : ℕ) (bytes : List ℕ) (frame out : Reading) (by : WantedTreatment) (settings : TableSettings)
    → by ≡ treatment.Unchanged → frame_of (input_tpid_of (table_at e port)) bytes ≡ Ok frame
    → Reads bytes input frame.addresses frame.tags frame.rest → meaning e port bytes ≡ Forward gem out
    → (number : ℕ)
    → tags_alike out.tags frame.tags
    ≡ leaves_with (bytes_wanted by settings bytes (reading_of (input_tpid_of (table_at e port)) bytes)) (Forward number out)
unchanged_wanted e port gem input bytes frame out by settings is read reads leaves number =
    rw is (unchanged_bytes input bytes frame out reads (leaves_whole e port gem bytes frame out read leaves))

-- or those of other tags
pub retag_wanted : (e : Entities) (port gem : ℕ) (bytes : List ℕ) (frame out : Reading) (by : WantedTreatment) (wanted : WantedRetag) (settings : TableSettings)
    (tags : List TagFields)
    → by ≡ treatment.Retag wanted → frame_of (input_tpid_of (table_at e port)) bytes ≡ Ok frame → meaning e port bytes ≡ Forward gem out
    → tags ≡ tags_wanted wanted settings frame.tags (dscp_of frame.rest)
    → (number : ℕ)
    → tags_alike out.tags tags
    ≡ leaves_with (bytes_wanted by settings bytes (reading_of (input_tpid_of (table_at e port)) bytes)) (Forward number out)
retag_wanted e port gem bytes frame out by wanted settings tags is read leaves are number =
    let whole = leaves_whole e port gem bytes frame out read leaves in
    let made : tags_alike out.tags tags ≡ bytes_eq (frame_bytes out) (frame_bytes (record frame { tags = tags_wanted wanted settings frame.tags (dscp_of frame.rest) })) =
    ap (tags_alike out.tags) are ∙ alike_bytes frame out (tags_wanted wanted settings frame.tags (dscp_of frame.rest)) whole in
    rw is (made
    ∙ ap (λ (r : Reading). bytes_eq (frame_bytes out) (frame_bytes (record r { tags = tags_wanted wanted settings r.tags (dscp_of r.rest) })))
    (sym (read_is (input_tpid_of (table_at e port)) bytes frame read)))

-- a frame that ends as is wanted, and leaves so
pub met_by : (expected : Expectation) (table : Option Table) (bytes : List ℕ) (verdict : Verdict) (leaves : Bool)
    → ends_as expected.ending verdict ≡ true
    → leaves ≡ leaves_with (bytes_wanted expected.treatment (settings_by table) bytes (reading_of (input_tpid_of table) bytes)) verdict
    → leaves ≡ meets_by expected table bytes verdict
met_by expected table bytes verdict leaves ends is = rw ends is
