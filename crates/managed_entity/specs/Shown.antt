-- The types of the classes as instances: the number, and the bytes of the attributes in ascending order.
use Rattle.std.specs.Prelude.{ℕ, List, [], ◌∷◌, slice_index}
use Rattle.byteorder.specs.Endian.{big_bytes}
use Rattle.vlan_rule.specs.Table.{table_max_size}
use Rattle.pmapper.specs.declared.mapper.Mapper.{Mapper}
use Rattle.managed_entity.specs.declared.vlan.VlanConfig.{VlanConfig}
use Rattle.pmapper.specs.declared.interwork.Interwork.{Interwork}
use Rattle.pmapper.specs.declared.gem_port.GemPort.{GemPort}
use Rattle.managed_entity.specs.Instance.{Instance}

abbrev pub mapper_values : Mapper → List (List ℕ)
mapper_values m =
    big_bytes 2 m.tp_pointer
    ∷ big_bytes 2 (slice_index m.interwork_tp_pointers 0) ∷ big_bytes 2 (slice_index m.interwork_tp_pointers 1)
    ∷ big_bytes 2 (slice_index m.interwork_tp_pointers 2) ∷ big_bytes 2 (slice_index m.interwork_tp_pointers 3)
    ∷ big_bytes 2 (slice_index m.interwork_tp_pointers 4) ∷ big_bytes 2 (slice_index m.interwork_tp_pointers 5)
    ∷ big_bytes 2 (slice_index m.interwork_tp_pointers 6) ∷ big_bytes 2 (slice_index m.interwork_tp_pointers 7)
    ∷ (m.unmarked_frame_option ∷ []) ∷ m.dscp_map.0 ∷ (m.default_p_bit_assumption ∷ []) ∷ (m.tp_type ∷ []) ∷ []

abbrev pub mapper_instance : ℕ → Mapper → Instance
mapper_instance n m = record { number = n; values = mapper_values m; entries = [] }

abbrev pub vlan_values : VlanConfig → List (List ℕ)
vlan_values v =
    (v.association ∷ []) ∷ big_bytes 2 table_max_size ∷ big_bytes 2 v.settings.input_tpid ∷ big_bytes 2 v.settings.output_tpid
    ∷ (v.downstream ∷ []) ∷ [] ∷ big_bytes 2 v.pointer ∷ v.settings.dscp_map.0 ∷ []

abbrev pub vlan_instance : ℕ → VlanConfig → Instance
vlan_instance n v = record { number = n; values = vlan_values v; entries = v.table }

abbrev pub interwork_values : Interwork → List (List ℕ)
interwork_values t =
    big_bytes 2 t.gem_port_pointer ∷ (t.interworking_option ∷ []) ∷ big_bytes 2 t.service_profile_pointer
    ∷ big_bytes 2 t.interworking_tp_pointer ∷ (t.pptp_counter ∷ []) ∷ (t.operational_state ∷ [])
    ∷ big_bytes 2 t.gal_profile_pointer ∷ (t.gal_loopback_configuration ∷ []) ∷ []

abbrev pub interwork_instance : ℕ → Interwork → Instance
interwork_instance n t = record { number = n; values = interwork_values t; entries = [] }

abbrev pub gem_port_values : GemPort → List (List ℕ)
gem_port_values p =
    big_bytes 2 p.port_id ∷ big_bytes 2 p.t_cont_pointer ∷ (p.direction ∷ [])
    ∷ big_bytes 2 p.traffic_management_pointer_upstream ∷ big_bytes 2 p.traffic_descriptor_pointer_upstream
    ∷ (p.uni_counter ∷ []) ∷ big_bytes 2 p.priority_queue_pointer_downstream ∷ (p.encryption_state ∷ [])
    ∷ big_bytes 2 p.traffic_descriptor_pointer_downstream ∷ (p.encryption_key_ring ∷ []) ∷ []

abbrev pub gem_port_instance : ℕ → GemPort → Instance
gem_port_instance n p = record { number = n; values = gem_port_values p; entries = [] }
