-- Which line of a script set an entry of a received frame VLAN tagging operation table (ITU-T G.988, 9.3.13).
use Rattle.std.specs.Prelude.{ℕ, Bool, true, false, ◌&&◌, ◌==◌, List, Option, Some, None, map, take, drop}
use Rattle.std.specs.List.{filter, last_or}
use Rattle.omci_msg.specs.declared.Request.{Request}
use Rattle.omci_msg.specs.declared.Action.{Action}
use Rattle.omci_msg.specs.declared.Action.TheVariants.{Create, Delete, Set, Get, GetNext, MibUpload, MibUploadNext, MibReset, Other}
use Rattle.vlan_rule.specs.Entry.{key_of}
use Rattle.managed_entity.specs.Class.{vlan_layout}
use Rattle.managed_entity.specs.Mask.{mask_of}
use Rattle.managed_entity.specs.Set.{entry_at}
use Rattle.script_trace.specs.declared.applied.Accepted.{Accepted}

-- whether the entry that stands at a place among the bytes of a Set has the key; none stands there where the mask doesn't name the table
abbrev pub has_key : ℕ → List ℕ → Option ℕ → Bool
has_key key bytes None = false
has_key key bytes (Some at) = key_of (take 16 (drop at bytes)) == key

-- a Create makes the table with its predefined entries, and a Set puts an entry of a key into it
abbrev pub sets_by : Action → ℕ → List ℕ → Bool
sets_by Create key contents = true
sets_by Set key contents = has_key key (drop 2 contents) (entry_at (mask_of contents) 0 vlan_layout)
sets_by Delete key contents = false
sets_by Get key contents = false
sets_by GetNext key contents = false
sets_by MibUpload key contents = false
sets_by MibUploadNext key contents = false
sets_by MibReset key contents = false
sets_by (Other code) key contents = false

-- whether a request that is accepted sets the entry of a key in the table of an instance of class 171
unfoldable pub sets_entry : ℕ → ℕ → Request → Bool
sets_entry n key q = q.class == 171 && q.instance == n && sets_by q.action key q.contents

-- the lines of those that did
abbrev pub setting_lines : ℕ → ℕ → List Accepted → List ℕ
setting_lines n key accepted = map (λ (a : Accepted). a.line) (filter (λ (a : Accepted). sets_entry n key a.request) accepted)

-- the line of the last one, or another where none did
abbrev pub last_setting : ℕ → ℕ → Option ℕ → List Accepted → Option ℕ
last_setting n key line accepted = last_or line (setting_lines n key accepted)

abbrev pub setting_line : ℕ → ℕ → List Accepted → Option ℕ
setting_line n key accepted = last_setting n key None accepted
