-- How the job text spells a number, a place and a name, and what it is to begin with one.
--
-- A number is spelt by `decimal`, the text that std displays of it, so it has no leading zero. A name is the bytes that the
-- calls take for a name.
--
--   Small n            n is 1 to 65,535
--   SoundPlace p       both numbers of the place are
--   placed p           the bytes of a place
--   Name bs            1 to 8 bytes of A to Z or 0 to 9
--   At .. bs v rest    bs spells the sound value v, and then rest, which does not go on with it
--   NumberAt, PlaceAt, NameAt     the same of a number, a place and a name
--   Run C bs front rest           bs is front, all of the class C, and then rest, which begins with none of it
use Rattle.std.specs.Prelude.{◌≡◌, ℕ, ◌<◌, true, List, ◌∷◌, ◌++◌, decimal, slice_index}
use Rattle.causality.specs.declared.Place.{Place}
use Rattle.history.specs.History.{is_letter, is_name}
use Rattle.std.specs.Int.{IsInRange}
use Rattle.std.specs.List.{AllByRecursion}

abbrev pub Small : ℕ → Type 0
Small n = (0 < n) × (n < 65536)

abbrev pub SoundPlace : Place → Type 0
SoundPlace p = Small p.node × Small p.index

-- NODE.INDEX
abbrev pub placed : Place → List ℕ
placed p = decimal p.node ++ (46 ∷ decimal p.index)

abbrev pub Name : List ℕ → Type 0
Name bs = is_name bs ≡ true

-- the bytes that a number, and with it a place, goes on with
abbrev pub Digit : ℕ → Type 0
Digit b = IsInRange 48 57 b

-- the bytes that a name goes on with
abbrev pub Letter : ℕ → Type 0
Letter b = is_letter b ≡ true

-- the next byte, if there is one, is none of these
pub record At {A : Type 0} (Good : A → Type 0) (spell : A → List ℕ) (Goes_on : ℕ → Type 0) (bs : List ℕ) (value : A) (rest : List ℕ) : Type 0 where
  pub sound : Good value
  pub spelt : bs ≡ spell value ++ rest
  pub stops : Goes_on (slice_index rest 0) → ⊥

abbrev pub NumberAt : List ℕ → ℕ → List ℕ → Type 0
NumberAt = At Small decimal Digit

abbrev pub PlaceAt : List ℕ → Place → List ℕ → Type 0
PlaceAt = At SoundPlace placed Digit

abbrev pub NameAt : List ℕ → List ℕ → List ℕ → Type 0
NameAt = At Name (λ bs. bs) Letter

pub record Run (C : ℕ → Type 0) (bs front rest : List ℕ) : Type 0 where
  pub whole : front ++ rest ≡ bs
  pub all : AllByRecursion C front
  pub stops : C (slice_index rest 0) → ⊥
