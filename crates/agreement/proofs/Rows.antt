-- Equal columns leave the same rows.
use Rattle.std.proofs.Common.{◌≡◌, ℕ, zero, suc, cond, eqb, List, Some, None, Option, refl, ap₂}
use Rattle.std.proofs.lemmas.Bool.{true≢false, false≢true}
use Rattle.causality.proofs.Traces.{accepted_is_orderly}
use Rattle.causality.proofs.Columns.{columns_decide}
use Rattle.history.specs.declared.refusal.Refusal.{Refusal}
use Rattle.history.specs.History.{is_none, named, members_of}
use Rattle.history.specs.Calls.{Call, refusal}
use Rattle.history.specs.Answers.{row, with_row, stamp_number, stamp_if, cut_number, cut_if}
use Rattle.history.proofs.Named.{named-place}
use Rattle.relating.proofs.Agreements.{sets_alike}
use Rattle.agreement.specs.Agreement.{StampsAgree, CutsAgree}
use Rattle.agreement.proofs.Columns.{equal_columns, named_alike}
use Rattle.agreement.proofs.Relating.{closed-stage, sets}

same_row : (f g : ℕ → ℕ) → ((i : ℕ) → f i ≡ g i) → (n : ℕ) → row f n ≡ row g n
same_row f g same zero = refl
same_row f g same (suc n) = rw (same_row f g same n, same (suc n))

same-with_row : (n m : ℕ) → n ≡ m → (f g : ℕ → ℕ) → ((i : ℕ) → f i ≡ g i) → (old : List ℕ) → with_row n f old ≡ with_row m g old
same-with_row n m e f g same old = rw (e, same_row f g same m)

pub stamps_agree : StampsAgree
stamps_agree h k reached reached' same opens p d len old =
    let refused : refusal h (Call.stamp p d len) ≡ refusal k (Call.stamp p d len) = rw (same.started, same.also_started, named_alike h k reached reached' same p, opens, same.nodes) in
    ap₂ (λ (o : Option Refusal) (new : List ℕ). cond (is_none o) new old) refused (go (named h p) (named k p) refl refl (named_alike h k reached reached' same p))
  where
    go : (o o' : Option ℕ) → named h p ≡ o → named k p ≡ o' → is_none o ≡ is_none o' → stamp_if h d o old ≡ stamp_if k d o' old
    go None None e e' alike = refl
    go None (Some x') e e' alike = absurd (true≢false alike)
    go (Some x) None e e' alike = absurd (false≢true alike)
    go (Some x) (Some x') e e' alike =
        let orderly = accepted_is_orderly h.events reached.lawful.accepted in
        let orderly' = accepted_is_orderly k.events reached'.lawful.accepted in
        let place = (named-place h p x e).1 in
        let place' = (named-place k p x' e').1 in
        let agrees = columns_decide h.events k.events orderly orderly' (equal_columns h k reached reached' same)
        p.node p.index x x' p.node p.index x x' place place' place place' in
        same-with_row h.nodes k.nodes same.nodes (stamp_number h d x) (stamp_number k d x') (λ i. ap₂ (cond (eqb d 1)) (agrees.stamps i) (agrees.reverse_stamps i)) old

pub cuts_agree : CutsAgree
cuts_agree h k reached reached' same closed closed' X X' o w len old =
    let orderly = accepted_is_orderly h.events reached.lawful.accepted in
    let orderly' = accepted_is_orderly k.events reached'.lawful.accepted in
    let X-is = sets h k reached reached' X X' o in
    let (began, shut) = closed-stage h.stage closed in
    let (began', shut') = closed-stage k.stage closed' in
    let refused : refusal h (Call.cut X w len) ≡ refusal k (Call.cut X' w len) =
    rw (began, shut, began', shut', X-is.members, X-is.also_members, same.nodes) in
    let alike = sets_alike h.events k.events orderly orderly' (equal_columns h k reached reached' same) X-is.x X-is.xs X-is.x' X-is.xs'
    (reached.members X _ X-is.members).held (reached'.members X' _ X-is.also_members).held X-is.places in
    let numbers : (i : ℕ) → cut_number h.events w X-is.x X-is.xs i ≡ cut_number k.events w X-is.x' X-is.xs' i = λ i.
    rw (alike.joint_pasts i, alike.whole_pasts i, alike.first_reaches i, alike.joint_reaches i) in
    let rows : cut_if h w (members_of h X) old ≡ cut_if k w (members_of k X') old =
    rw (X-is.members, X-is.also_members) (same-with_row h.nodes k.nodes same.nodes _ _ numbers old) in
    ap₂ (λ (o : Option Refusal) (new : List ℕ). cond (is_none o) new old) refused rows
