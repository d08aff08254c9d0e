-- The words of the relations are names, and no two are alike.
use Rattle.std.proofs.Common.{◌≡◌, ℕ, cond, eqb, List, length, get_or, sym, refl, ap, ◌∙◌}
use Rattle.causality.specs.declared.Relation.{Relation}
use Rattle.line_parts.specs.Parts.{Name}
use Rattle.line_fields.specs.Fields.{relation_word}

pub word_name : (r : Relation) → Name (relation_word r)
word_name Relation.R1 = refl
word_name Relation.R2 = refl
word_name Relation.R2P = refl
word_name Relation.R3 = refl
word_name Relation.R3P = refl
word_name Relation.R4 = refl

-- the relation of a word, by its second byte and its length
abbrev of_word : List ℕ → Relation
of_word w =
    cond (eqb (get_or w 1 0) 49) Relation.R1 (
    cond (eqb (get_or w 1 0) 50) (cond (eqb (length w) 2) Relation.R2 Relation.R2P) (
    cond (eqb (get_or w 1 0) 51) (cond (eqb (length w) 2) Relation.R3 Relation.R3P) Relation.R4))

of_word_is : (r : Relation) → of_word (relation_word r) ≡ r
of_word_is Relation.R1 = refl
of_word_is Relation.R2 = refl
of_word_is Relation.R2P = refl
of_word_is Relation.R3 = refl
of_word_is Relation.R3P = refl
of_word_is Relation.R4 = refl

pub same_word : (r q : Relation) → relation_word r ≡ relation_word q → r ≡ q
same_word r q e = sym (of_word_is r) ∙ ap of_word e ∙ of_word_is q
