-- The bearer of an action among one more key.
use Rattle.keymap_check.proofs.Common.{suc, ◌≡◌, ℕ, ◌+◌, Bool, true, false, refl, add-one, if◌then◌else◌, Holding}
use Rattle.keymap_check.proofs.Common.{Bearer, Nobody, MapValue, bearer_below, bearer_with, next_bearer, bears_holding}

-- among no keys nobody bears
pub bearer_below-start : (m : MapValue) (a : Holding) → bearer_below m a 0 ≡ Nobody
unfolding bearer_below
bearer_below-start m a = refl

-- the next key joins the bearers if it bears
pub bearer_below-more : (m : MapValue) (a : Holding) (k : ℕ)
    → bearer_below m a (suc k)
    ≡ (if bears_holding m k a then next_bearer (bearer_below m a k) (bearer_with m a k) else bearer_below m a k)
unfolding bearer_below
bearer_below-more m a k = refl

-- the next key bears
pub bearer-added : (m : MapValue) (a : Holding) (k : ℕ) (b c : Bearer) (r : Bool) → b ≡ bearer_below m a k
    → r ≡ bears_holding m k a → r ≡ true → c ≡ next_bearer b (bearer_with m a k) → c ≡ bearer_below m a (k + 1)
bearer-added m a k b c r is by t new = rw (add-one, bearer_below-more m a k, ← by, t, new, is) refl

-- the next key doesn't bear
pub bearer-kept : (m : MapValue) (a : Holding) (k : ℕ) (b : Bearer) (r : Bool) → b ≡ bearer_below m a k
    → r ≡ bears_holding m k a → r ≡ false → b ≡ bearer_below m a (k + 1)
bearer-kept m a k b r is by t = rw (add-one, bearer_below-more m a k, ← by, t, is) refl
