-- What a unit leaves of a frame as it came, whatever it does to the frame's tags.
use Rattle.std.specs.Prelude.{ℕ, ◌+◌, ◌*◌, ◌/◌, ◌==◌, ◌||◌, ◌&&◌, Bool, false, true, List, [], ◌∷◌, if◌then◌else◌, length, nat_eq, nat_lt, take, drop}
use Rattle.std.specs.List.{list_any, starts_with}
use Rattle.std.specs.Str.{bytes_eq}
use Rattle.tag_view.specs.Tag.{customer_tpid, service_tpid}
use Rattle.bench_history.specs.declared.extent.Extent.{Extent}
use Rattle.bench_history.specs.declared.extent.Extent.TheVariants.{Whole, Front}

-- the addresses of a frame, and what stands behind its leading tags; of a front its first bytes. Whether a wire may have padded frames
pub record Core : Type 0 where
  pub padded : Bool
  pub extent : Extent
  pub addresses : List ℕ
  pub rest : List ℕ

-- the types that begin a tag: those of IEEE 802.1Q, and others that are set
abbrev pub begins_tag : List ℕ → ℕ → Bool
begins_tag tpids type = type == customer_tpid || type == service_tpid || list_any (nat_eq type) tpids

-- behind all leading tags, each a type and two bytes more
abbrev pub behind_tags : List ℕ → List ℕ → List ℕ
behind_tags tpids (a ∷ b ∷ c ∷ d ∷ rest) = if begins_tag tpids (256 * a + b) then behind_tags tpids rest else a ∷ b ∷ c ∷ d ∷ rest
behind_tags tpids rest = rest

-- whether a byte begins the type of a tag
abbrev pub begins_type : List ℕ → ℕ → Bool
begins_type tpids high = customer_tpid / 256 == high || service_tpid / 256 == high || list_any (λ type. type / 256 == high) tpids

-- whether bytes may be the first of a tag
abbrev pub may_begin_tag : List ℕ → List ℕ → Bool
may_begin_tag tpids [] = true
may_begin_tag tpids (a ∷ []) = begins_type tpids a
may_begin_tag tpids (a ∷ b ∷ rest) = begins_tag tpids (256 * a + b)

-- of a front that ends within what may be a tag, nothing is known behind its tags
abbrev pub known_behind : List ℕ → Extent → List ℕ → List ℕ
known_behind tpids Whole rest = rest
known_behind tpids Front rest = if may_begin_tag tpids rest then [] else rest

-- without the zeros that end bytes
abbrev pub without_zeros : List ℕ → List ℕ
without_zeros [] = []
without_zeros (b ∷ bytes) = let rest = without_zeros bytes in if b == 0 && length rest == 0 then [] else b ∷ rest

abbrev pub core_of : Bool → List ℕ → Extent → List ℕ → Core
core_of padded tpids extent frame =
    record { padded = padded; extent = extent; addresses = take 12 frame; rest = known_behind tpids extent (behind_tags tpids (drop 12 frame)) }

-- whether two whole rests are the same; where a wire may have padded frames, but for the zeros that end them
abbrev pub are_same : Bool → List ℕ → List ℕ → Bool
are_same padded a b = if padded then bytes_eq (without_zeros a) (without_zeros b) else bytes_eq a b

-- whether a frame with this whole rest was cut to this front: it goes on behind it; where a wire may have padded it, by zeros too
abbrev pub cut_from : Bool → List ℕ → List ℕ → Bool
cut_from padded whole front =
    if padded then bytes_eq (without_zeros (take (length front) whole)) (without_zeros front)
    else starts_with nat_eq whole front && nat_lt (length front) (length whole)

-- whether what is known of a frame that was sent and of one that leaves is the same as far as both are known. One that leaves whole has its
-- padding, so it is longer than the front of what was sent
abbrev pub rests_agree : Bool → Extent → Extent → List ℕ → List ℕ → Bool
rests_agree padded Whole Whole sent seen = are_same padded sent seen
rests_agree padded Whole Front sent seen = cut_from padded sent seen
rests_agree padded Front Whole sent seen = cut_from false seen sent
rests_agree padded Front Front sent seen = starts_with nat_eq sent seen || starts_with nat_eq seen sent

abbrev pub cores_agree : Core → Core → Bool
cores_agree sent seen = bytes_eq sent.addresses seen.addresses && rests_agree sent.padded sent.extent seen.extent sent.rest seen.rest
