-- No two sound lines are spelt alike: the first byte tells the form, and then each part is read in one way.
use Rattle.std.proofs.Common.{◌≡◌, ℕ, List, ◌++◌, get_or, drop, codes, decimal, refl, ap, arith}
use Rattle.causality.specs.declared.Place.{Place}
use Rattle.std.proofs.lemmas.List.{append_cancel_left}
use Rattle.line_forms.specs.Forms.{Sound, written}
use Rattle.line_parts.specs.Parts.{Small, SoundPlace, placed}
use Rattle.line_forms.specs.declared.forms.Line.{Line}
use Rattle.line_forms.specs.declared.forms.Line.TheVariants.{Nodes, Local, Send, Receive, Meet, Order}
use Rattle.line_parts.proofs.Reading.{same_number, same_place, number_end, number_space, place_end, place_space, keyed}

one : (n m : ℕ) → Small n → Small m → decimal n ≡ decimal m → n ≡ m
one n m sn sm e = (same_number (number_end n sn refl) (number_end m sm e)).0

two : (key : List ℕ) → get_or key 0 0 ≡ 32 → (n m a b : ℕ) → Small n × Small m → Small a × Small b → decimal n ++ (key ++ decimal m) ≡ decimal a ++ (key ++ decimal b) → (n ≡ a) × (m ≡ b)
two key space n m a b s t e =
    let p = same_number (number_space n _ (keyed key (decimal m) space) s.0 refl) (number_space a _ (keyed key (decimal b) space) t.0 e) in
    (p.0, one m b s.1 t.1 (append_cancel_left key _ _ p.1))

places : (p q a b : Place) → SoundPlace p × SoundPlace q → SoundPlace a × SoundPlace b → placed p ++ (codes " to=" ++ placed q) ≡ placed a ++ (codes " to=" ++ placed b) → (p ≡ a) × (q ≡ b)
places p q a b s t e =
    let r = same_place (place_space p _ refl s.0 refl) (place_space a _ refl t.0 e) in
    (r.0, (same_place (place_end q s.1 refl) (place_end b t.1 (ap (drop 4) r.1))).0)

pub unique : (l k : Line) → Sound l → Sound k → written l ≡ written k → l ≡ k
unique (Nodes n) (Nodes a) s t e = ap Nodes (one n a s t (ap (drop 6) e))
unique (Nodes n) (Local a) s t e = absurd (omega (arith, ap (λ l. get_or l 0 0) e))
unique (Nodes n) (Send a b) s t e = absurd (omega (arith, ap (λ l. get_or l 0 0) e))
unique (Nodes n) (Receive a b) s t e = absurd (omega (arith, ap (λ l. get_or l 0 0) e))
unique (Nodes n) (Meet a b) s t e = absurd (omega (arith, ap (λ l. get_or l 0 0) e))
unique (Nodes n) (Order a b) s t e = absurd (omega (arith, ap (λ l. get_or l 0 0) e))
unique (Local n) (Nodes a) s t e = absurd (omega (arith, ap (λ l. get_or l 0 0) e))
unique (Local n) (Local a) s t e = ap Local (one n a s t (ap (drop 6) e))
unique (Local n) (Send a b) s t e = absurd (omega (arith, ap (λ l. get_or l 0 0) e))
unique (Local n) (Receive a b) s t e = absurd (omega (arith, ap (λ l. get_or l 0 0) e))
unique (Local n) (Meet a b) s t e = absurd (omega (arith, ap (λ l. get_or l 0 0) e))
unique (Local n) (Order a b) s t e = absurd (omega (arith, ap (λ l. get_or l 0 0) e))
unique (Send n m) (Nodes a) s t e = absurd (omega (arith, ap (λ l. get_or l 0 0) e))
unique (Send n m) (Local a) s t e = absurd (omega (arith, ap (λ l. get_or l 0 0) e))
unique (Send n m) (Send a b) s t e = let p = two (codes " msg=") refl n m a b s t (ap (drop 5) e) in λ i. Send (p.0 i) (p.1 i)
unique (Send n m) (Receive a b) s t e = absurd (omega (arith, ap (λ l. get_or l 0 0) e))
unique (Send n m) (Meet a b) s t e = absurd (omega (arith, ap (λ l. get_or l 0 0) e))
unique (Send n m) (Order a b) s t e = absurd (omega (arith, ap (λ l. get_or l 0 0) e))
unique (Receive n m) (Nodes a) s t e = absurd (omega (arith, ap (λ l. get_or l 0 0) e))
unique (Receive n m) (Local a) s t e = absurd (omega (arith, ap (λ l. get_or l 0 0) e))
unique (Receive n m) (Send a b) s t e = absurd (omega (arith, ap (λ l. get_or l 0 0) e))
unique (Receive n m) (Receive a b) s t e = let p = two (codes " msg=") refl n m a b s t (ap (drop 5) e) in λ i. Receive (p.0 i) (p.1 i)
unique (Receive n m) (Meet a b) s t e = absurd (omega (arith, ap (λ l. get_or l 0 0) e))
unique (Receive n m) (Order a b) s t e = absurd (omega (arith, ap (λ l. get_or l 0 0) e))
unique (Meet n m) (Nodes a) s t e = absurd (omega (arith, ap (λ l. get_or l 0 0) e))
unique (Meet n m) (Local a) s t e = absurd (omega (arith, ap (λ l. get_or l 0 0) e))
unique (Meet n m) (Send a b) s t e = absurd (omega (arith, ap (λ l. get_or l 0 0) e))
unique (Meet n m) (Receive a b) s t e = absurd (omega (arith, ap (λ l. get_or l 0 0) e))
unique (Meet n m) (Meet a b) s t e = let p = two (codes " with=") refl n m a b s t (ap (drop 5) e) in λ i. Meet (p.0 i) (p.1 i)
unique (Meet n m) (Order a b) s t e = absurd (omega (arith, ap (λ l. get_or l 0 0) e))
unique (Order n m) (Nodes a) s t e = absurd (omega (arith, ap (λ l. get_or l 0 0) e))
unique (Order n m) (Local a) s t e = absurd (omega (arith, ap (λ l. get_or l 0 0) e))
unique (Order n m) (Send a b) s t e = absurd (omega (arith, ap (λ l. get_or l 0 0) e))
unique (Order n m) (Receive a b) s t e = absurd (omega (arith, ap (λ l. get_or l 0 0) e))
unique (Order n m) (Meet a b) s t e = absurd (omega (arith, ap (λ l. get_or l 0 0) e))
unique (Order n m) (Order a b) s t e = let p = places n m a b s t (ap (drop 6) e) in λ i. Order (p.0 i) (p.1 i)
