-- The operations that a table keeps: none, and one more.
use Rattle.std.proofs.Common.{◌≡◌, ℕ, ◌+◌, Bool, true, false, cond, eqb, List, [], ◌∷◌, length, Some, None, Option, sym, refl, ap, ◌∙◌, ap₂, inl, inr, add-one, arith}
use mathlib.Core.Path.{fun_ext}
use Rattle.std.specs.Option.{option_map}
use Rattle.std.proofs.lemmas.Bool.{cases_Bool, and_parts, eqb-true, both_ways, false≢true}
use Rattle.history.specs.History.{no_operations, with_operation, is_name, same_name}
use Rattle.names.specs.Names.{packed}
use Rattle.names.proofs.Order.{tells_same}
use Rattle.records.specs.declared.operations.Operation.{Operation}
use Rattle.records.specs.Operations.{operation_of, member_list}
use Rattle.catalog.specs.Catalog.{kept_members, kept_operations}

pub no_operation : (t : List Operation) → length t ≡ 0 → (name : ℕ) → operation_of t name ≡ None
no_operation [] e name = refl
no_operation (o ∷ t) e name = absurd (omega arith)

neither : (b : Bool) → cond {A = Option (List ℕ)} b None None ≡ None
neither true = refl
neither false = refl

-- no operations are kept
pub none_kept : (t : List Operation) → length t ≡ 0 → kept_operations t ≡ no_operations
none_kept t e =
    ap₂ (λ (n : ℕ) (f : List ℕ → Option (List ℕ)). record { count = n; members = f }) e
    (fun_ext (λ name. ap (λ (o : Option Operation). cond (is_name name) (option_map member_list o) None) (no_operation t e (packed name)) ∙ neither (is_name name)))

same_name-is : (x y : List ℕ) → same_name x y ≡ true → x ≡ y
same_name-is [] [] e = refl
same_name-is [] (y ∷ ys) e = absurd (false≢true e)
same_name-is (x ∷ xs) [] e = absurd (false≢true e)
same_name-is (x ∷ xs) (y ∷ ys) e =
    let (h, t) = and_parts (eqb x y) (same_name xs ys) e in
    ap₂ (λ (z : ℕ) (zs : List ℕ). z ∷ zs) (eqb-true x y h) (same_name-is xs ys t)

-- one operation more is kept
module _ (t t' : List Operation) (o : Operation) (name ms : List ℕ) (is : is_name name ≡ true) (key : o.name ≡ packed name) (members : member_list o ≡ ms)
    (sets : (k : ℕ) → operation_of t' k ≡ cond (eqb o.name k) (Some o) (operation_of t k)) where
  other-members : (other : List ℕ) → kept_members t' other ≡ cond (same_name name other) (Some ms) (kept_members t other)
  other-members other =
      elim (cases_Bool (is_name other)) [
        | inl s ↦
            let tells : eqb o.name (packed other) ≡ same_name name other = ap (λ (k : ℕ). eqb k (packed other)) key ∙ tells_same name other is s in
            let found : operation_of t' (packed other) ≡ cond (same_name name other) (Some o) (operation_of t (packed other)) = sets (packed other) ∙ ap (λ (b : Bool). cond b (Some o) (operation_of t (packed other))) tells in
            elim (cases_Bool (same_name name other)) [
              | inl w ↦ let here : operation_of t' (packed other) ≡ Some o = rw w at found in rw (s, here, w, members)
              | inr w ↦ let there : operation_of t' (packed other) ≡ operation_of t (packed other) = rw w at found in rw (s, there, w)
            ]
        | inr s ↦
            elim (cases_Bool (same_name name other)) [
              | inl w ↦ absurd (both_ways (is_name other) s (ap is_name (sym (same_name-is name other w)) ∙ is))
              | inr w ↦ rw (s, w)
            ]
      ]

  pub one_kept : length t' ≡ length t + 1 → kept_operations t' ≡ with_operation (kept_operations t) name ms
  one_kept more = ap₂ (λ (n : ℕ) (f : List ℕ → Option (List ℕ)). record { count = n; members = f }) (more ∙ add-one (length t)) (fun_ext other-members)
