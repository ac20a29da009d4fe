-- Which replies are right.
use Rattle.std.specs.Prelude.{◌≡◌, ℕ, suc, ◌-◌, ◌==◌, ◌&&◌, ◌||◌, Bool, true, false, not, nat_le, nat_lt, if◌then◌else◌, List, [], ◌∷◌, Result, Ok, Err, drop, slice_get}
use Rattle.omci_msg.specs.declared.action.Action.{Action}
use Rattle.omci_msg.specs.declared.action.Action.TheVariants.{Create, Delete, Set, Get, GetNext, MibUpload, MibUploadNext, MibReset, Other}
use Rattle.omci_msg.specs.declared.request.Request.{Request}
use Rattle.omci_msg.specs.declared.reply.Reply.{Reply}
use Rattle.omci_msg.specs.declared.fault.MsgFault.{MsgFault}
use Rattle.omci_msg.specs.Message.{code_of, reply_of}
use Rattle.managed_entity.specs.declared.attribute.Access.{Access}
use Rattle.managed_entity.specs.declared.attribute.Attribute.{Attribute}
use Rattle.managed_entity.specs.Class.{attributes_of, is_created, is_read_only, is_table, vlan_class}
use Rattle.managed_entity.specs.Mask.{mask_of, names}

-- a request that wants an answer, and the model's reply
pub record Wanted : Type 0 where
  pub request : Request
  pub reply : Reply

-- ---- what a model determines of a unit's replies

-- whether a real unit's reply to an action on a class has the model's contents: other classes give it other syncs and rows
abbrev pub is_modelled : Action → ℕ → Bool
is_modelled Create class = is_created class
is_modelled Delete class = is_created class
is_modelled Set class = is_created class
is_modelled Get class = is_created class
is_modelled GetNext class = is_created class
is_modelled MibUpload class = false
is_modelled MibUploadNext class = false
is_modelled MibReset class = true
is_modelled (Other code) class = false

-- whether a real unit may have another value of an attribute: its own if the attribute is read only, and a table of its own size
abbrev pub is_own : Access → Bool
is_own access = is_read_only access || is_table access

-- how many bytes the reply to a Get has of an attribute: of a table its size, in four bytes
abbrev pub returned_width : Attribute → ℕ
returned_width a = if is_table a.access then 4 else a.width

-- whether a byte of values is a unit's own; the values are those of the attributes that a mask names, from a place on
abbrev pub is_own_byte : ℕ → ℕ → List Attribute → ℕ → Bool
is_own_byte mask place [] byte = false
is_own_byte mask place (a ∷ rest) byte =
    if not (names mask place) then is_own_byte mask (suc place) rest byte
    else (if nat_lt byte (returned_width a) then is_own a.access
    else is_own_byte mask (suc place) rest (byte - returned_width a))

-- the same of a byte of the contents of the reply to a Get, which has its 25 bytes of values behind the result and the mask
abbrev pub is_own_value : ℕ → List ℕ → ℕ → Bool
is_own_value class contents byte =
    nat_le 3 byte && nat_lt byte 28 && is_own_byte (mask_of (drop 1 contents)) 0 (attributes_of class) (byte - 3)

-- the mask of attribute 6 alone
abbrev pub table_mask : ℕ
table_mask = 0x0400

-- whether a Get next reads the table of class 171
abbrev pub reads_table : Request → Bool
reads_table q = q.class == vlan_class && mask_of q.contents == table_mask

-- whether a byte of the contents of the reply to a request may be a unit's own, by the contents of the model's reply
abbrev pub may_be_own : Action → Request → List ℕ → ℕ → Bool
may_be_own Get q contents byte = is_own_value q.class contents byte
may_be_own GetNext q contents byte = reads_table q
may_be_own action q contents byte = false

-- ---- right replies

-- whether a byte of the contents of a reply is compared with that of the model's: each, or only those that the model determines
abbrev pub is_compared : Bool → Wanted → ℕ → Bool
is_compared modelled w byte =
    if modelled then is_modelled w.request.action w.request.class && not (may_be_own w.request.action w.request w.reply.contents byte)
    else true

-- bytes are spelled as a reply with the identifier, action, class and instance of another
pub record HasHeadOf (model : Reply) (bytes : List ℕ) : Type 0 where
  pub reply : Reply
  pub read : reply_of bytes ≡ Ok reply
  pub tci : reply.tci ≡ model.tci
  pub action : reply.action ≡ model.action
  pub class : reply.class ≡ model.class
  pub instance : reply.instance ≡ model.instance

-- bytes are a right reply to a request: spelled as a reply, with the identifier, action, class and instance of the model's, and
-- with each byte of its contents that is compared; the trailer isn't looked at
pub record IsReplyTo (modelled : Bool) (w : Wanted) (bytes : List ℕ) : Type 0 where
  pub reply : Reply
  pub read : reply_of bytes ≡ Ok reply
  pub tci : reply.tci ≡ w.reply.tci
  pub action : reply.action ≡ w.reply.action
  pub class : reply.class ≡ w.reply.class
  pub instance : reply.instance ≡ w.reply.instance
  pub contents : (byte : ℕ) → is_compared modelled w byte ≡ true → slice_get reply.contents byte ≡ slice_get w.reply.contents byte

-- ---- the same, computed

-- whether a reply has the identifier, action, class and instance of another
abbrev pub is_head_same : Reply → Reply → Bool
is_head_same model reply =
    reply.tci == model.tci && code_of reply.action == code_of model.action && reply.class == model.class && reply.instance == model.instance

-- whether no byte stands where bytes are compared
abbrev pub is_none_compared : (ℕ → Bool) → List ℕ → Bool
is_none_compared compared [] = true
is_none_compared compared (byte ∷ rest) = not (compared 0) && is_none_compared (λ k. compared (suc k)) rest

-- whether bytes are the model's wherever they are compared
abbrev pub are_same : (ℕ → Bool) → List ℕ → List ℕ → Bool
are_same compared [] model = is_none_compared compared model
are_same compared (byte ∷ seen) [] = is_none_compared compared (byte ∷ seen)
are_same compared (byte ∷ seen) (other ∷ model) = (not (compared 0) || byte == other) && are_same (λ k. compared (suc k)) seen model

-- whether what was read of bytes passes a test
abbrev pub is_read_as : (Reply → Bool) → Result Reply MsgFault → Bool
is_read_as test (Ok reply) = test reply
is_read_as test (Err fault) = false

-- whether bytes have the head of a reply
abbrev pub has_head : Reply → List ℕ → Bool
has_head model bytes = is_read_as (is_head_same model) (reply_of bytes)

-- whether bytes are a right reply to a request
abbrev pub is_reply : Bool → Wanted → List ℕ → Bool
is_reply modelled w bytes =
    is_read_as (λ reply. is_head_same w.reply reply && are_same (is_compared modelled w) reply.contents w.reply.contents) (reply_of bytes)
