-- How the job text spells a list of places, and which lists it has.
--
--   listed ps        the bytes of a list: its places, with a comma between two
--   SoundPlaces ps   1 to 512 sound places
--   Lists bs ps      bs is the list of the places ps
--   Stores bs n ps   bs is the list of the n places that stand first in the memory ps
use Rattle.std.specs.Prelude.{◌≡◌, ℕ, ◌≤◌, List, [], ◌∷◌, ◌++◌, length, take}
use Rattle.std.specs.List.{AllByRecursion}
use Rattle.causality.specs.declared.Place.{Place}
use Rattle.line_parts.specs.Parts.{SoundPlace, placed}

abbrev pub listed : List Place → List ℕ
listed [] = []
listed (p ∷ []) = placed p
listed (p ∷ q ∷ ps) = placed p ++ (44 ∷ listed (q ∷ ps))

abbrev pub max_places : ℕ
max_places = 512

pub record SoundPlaces (ps : List Place) : Type 0 where
  pub some : 1 ≤ length ps
  pub few : length ps ≤ max_places
  pub all : AllByRecursion SoundPlace ps

pub record Lists (bs : List ℕ) (ps : List Place) : Type 0 where
  pub sound : SoundPlaces ps
  pub is : bs ≡ listed ps

pub record Stores (bs : List ℕ) (n : ℕ) (ps : List Place) : Type 0 where
  pub within : n ≤ length ps
  pub lists : Lists bs (take n ps)
