-- Answers of the walks on the worked trace: SETUP is 1.2 and 2.1 (events 1 and 2), PICK is 3.2 (event 4), REST is 1.3 (event 6).
use Rattle.std.specs.Prelude.{◌≡◌, true, false, [], ◌∷◌}
use Rattle.causality.specs.Worked.{worked}
use Rattle.relating.specs.Walks.{walk}

pub record WorkedWalks : Type 0 where
  pub r1_setup_pick : walk 1 worked 3 1 (2 ∷ []) 4 [] ≡ (true, 2)
  pub r2p_setup_pick : walk 3 worked 3 1 (2 ∷ []) 4 [] ≡ (true, 1)
  pub r4_pick_setup : walk 6 worked 3 4 [] 1 (2 ∷ []) ≡ (false, 1)
  pub r2_setup_rest : walk 2 worked 3 1 (2 ∷ []) 6 [] ≡ (false, 2)
  pub r3p_setup_rest : walk 5 worked 3 1 (2 ∷ []) 6 [] ≡ (true, 1)
  pub r4_setup_setup : walk 6 worked 3 1 (2 ∷ []) 1 (2 ∷ []) ≡ (true, 1)
