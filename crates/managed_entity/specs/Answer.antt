-- The contents of an answer: 32 bytes, of which the first is the result (ITU-T G.988, annex A).
use Rattle.std.specs.Prelude.{ℕ, zero, suc, List, [], ◌∷◌, ◌++◌, Result, Ok, Err}
use Rattle.byteorder.specs.Endian.{big_bytes}
use Rattle.managed_entity.specs.declared.refusal.Refusal.{Refusal}
use Rattle.managed_entity.specs.declared.refusal.Refusal.TheVariants.{ProcessingError, NotSupported, ParameterError, UnknownEntity, UnknownInstance, InstanceExists, AttributesFailed}

-- bytes, and zeros up to a length
abbrev pub padded : ℕ → List ℕ → List ℕ
padded zero bytes = []
padded (suc n) [] = 0 ∷ padded n []
padded (suc n) (b ∷ bytes) = b ∷ padded n bytes

-- the result of a request that is carried out
abbrev pub success_code : ℕ
success_code = 0

-- the result of one that returned what it could, and names the attributes that it couldn't
abbrev pub partial_code : ℕ
partial_code = 9

-- the result of one that is refused
abbrev pub code_of : Refusal → ℕ
code_of ProcessingError = 1
code_of NotSupported = 2
code_of ParameterError = 3
code_of UnknownEntity = 4
code_of UnknownInstance = 5
code_of InstanceExists = 7
code_of (AttributesFailed optional execution) = 9

-- what follows the result: of attributes that failed, the optional-attribute mask and the attribute execution mask
abbrev pub masks_of : Refusal → List ℕ
masks_of ProcessingError = []
masks_of NotSupported = []
masks_of ParameterError = []
masks_of UnknownEntity = []
masks_of UnknownInstance = []
masks_of InstanceExists = []
masks_of (AttributesFailed optional execution) = big_bytes 2 optional ++ big_bytes 2 execution

-- the contents of an answer of success that returns nothing
abbrev pub success : List ℕ
success = padded 32 (success_code ∷ [])

-- the contents of a refusal
abbrev pub refused : Refusal → List ℕ
refused refusal = padded 32 (code_of refusal ∷ masks_of refusal)

-- ---- a change: what it leaves, or why it is refused

-- what a call that makes the change returns
abbrev pub outcome_of : {A : Type 0} → Result A Refusal → Result (Unit {0}) Refusal
outcome_of (Ok new) = Ok tt
outcome_of (Err refusal) = Err refusal

-- what it leaves: the new value, or the old one
abbrev pub left_by : {A : Type 0} → A → Result A Refusal → A
left_by old (Ok new) = new
left_by old (Err refusal) = old

-- the contents of an answer
abbrev pub told : Result (List ℕ) Refusal → List ℕ
told (Ok contents) = contents
told (Err refusal) = refused refusal
