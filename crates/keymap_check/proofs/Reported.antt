-- What the report on a map says.
use Rattle.keymap_check.proofs.Common.{◌≡◌, refl, ap, ◌∙◌, LeftShift, Lock, Holding, Caps, MapValue, bearer_of}
use Rattle.keymap_check.proofs.Common.{ReportValue, bearer_in}
use Rattle.keymap_check.specs.Computed.{is_steady}
use Rattle.keymap_check.specs.Report.{report_of, is_steady_in}
use Rattle.keymap_core.specs.declared.action.Holding.TheVariants as holding

-- the reported bearer is that of the map
bearer-of_map : (m : MapValue) (a : Holding) → bearer_in (report_of m) a ≡ bearer_of m a
bearer-of_map m (holding.Mod LeftShift) = refl
bearer-of_map m (holding.Lock Caps) = refl
bearer-of_map m _ = refl

-- the reported steady locks are those of the map
steady-of_map : (m : MapValue) (l : Lock) → is_steady_in (report_of m) l ≡ is_steady m l
steady-of_map m Caps = refl
steady-of_map m _ = refl

-- the bearer in what is the report on a map
pub reported-bearer : (m : MapValue) (r : ReportValue) (a : Holding) → r ≡ report_of m → bearer_in r a ≡ bearer_of m a
reported-bearer m r a e = ap (λ x. bearer_in x a) e ∙ bearer-of_map m a

-- a steady lock in what is the report on a map
pub reported-steady : (m : MapValue) (r : ReportValue) (l : Lock) → r ≡ report_of m → is_steady_in r l ≡ is_steady m l
reported-steady m r l e = ap (λ x. is_steady_in x l) e ∙ steady-of_map m l
