-- What settling answers and writes, for every match.
use Rattle.std.specs.Prelude.{◌≡◌, ℕ, zero, suc, ◌-◌, Bool, true, false, ◌&&◌, List, ◌++◌, length, take, drop, replicate, Ok, Err, Decides, Result, ◌==◌}
use Rattle.lists.specs.Between.{between}
use Rattle.games.specs.Meaning.{Meaning}
use Rattle.games.specs.Held.{Holds, HeldBy}
use Rattle.games.specs.Ways.{Fails}
use Rattle.games.specs.Listing.{listed, listing, Reached, MoreThan}
use Rattle.settle.specs.Rounds.{CountsAre}
use Rattle.settle.specs.declared.SettleFault.{SettleFault}
use Rattle.settle.specs.declared.SettleFault.TheVariants.{Lists}
use Rattle.settle.specs.declared.Verdict.{Verdict}
use Rattle.settle.specs.declared.Verdict.TheVariants.{Holds as HOLDS, Fails as FAILS, Full as FULL}
use Rattle.settle.specs.declared.Settled.{Settled}

-- are the lists equally long, 1 to 1,024 entries
abbrev pub settle_number : SettleFault → ℕ
settle_number Lists = 44

abbrev pub good_lists : List ℕ → List ℕ → Bool
good_lists codes counts = length codes == length counts && between 1 1024 (length codes)

abbrev pub padded : ℕ → List ℕ → List ℕ
padded n xs = xs ++ replicate (n - length xs) 0

-- no more than n codes are reached: the list has just those, each once and in order, with their counts beside them
pub record ListedAll (m : Meaning) (n : ℕ) (codes counts : List ℕ) (total : ℕ) : Type 0 where
  pub few : MoreThan m n → ⊥
  pub reached : (x : ℕ) → Decides (listed x (listing m n)) (Reached m x)
  pub codes_are : codes ≡ padded n (listing m n)
  pub total_is : total ≡ length (listing m n)
  pub counts_are : CountsAre m (listing m n) (take (length (listing m n)) counts)
  pub counts_past : drop (length (listing m n)) counts ≡ replicate (n - length (listing m n)) 0

-- more than n codes are reached: both lists are cleared
pub record OverFull (m : Meaning) (n : ℕ) (codes counts : List ℕ) (total : ℕ) : Type 0 where
  pub many : MoreThan m n
  pub codes_cleared : codes ≡ replicate n 0
  pub counts_cleared : counts ≡ replicate n 0
  pub none : total ≡ 0

-- HOLDS: some held set contains START. FAILS: none does, some way of challenging is sure to win within r, and none within fewer
abbrev pub Answer : Meaning → ℕ → List ℕ → List ℕ → ℕ → Verdict → Type 0
Answer m n codes counts total FULL = OverFull m n codes counts total
Answer m n codes counts total HOLDS = ListedAll m n codes counts total × Holds m
Answer m n codes counts total (FAILS r) = ListedAll m n codes counts total × Fails m r × (Holds m → ⊥)

abbrev pub verdict_of : ℕ → Verdict
verdict_of zero = HOLDS
verdict_of (suc r) = FAILS (suc r)

-- the entire outcome: lists as given, and as left
abbrev pub Outcome : Meaning → List ℕ → List ℕ → List ℕ → List ℕ → Result Settled SettleFault → Type 0
Outcome m codes counts codes' counts' (Err e) = (good_lists codes counts ≡ false) × (codes' ≡ codes) × (counts' ≡ counts)
Outcome m codes counts codes' counts' (Ok s) = (good_lists codes counts ≡ true) × Answer m (length codes) codes' counts' s.codes s.verdict

-- at FAILS, this set of codes is not held with START in it
abbrev pub Refuted : Meaning → (ℕ → Type 0) → Verdict → Type 0
Refuted m S FULL = Unit {0}
Refuted m S HOLDS = Unit {0}
Refuted m S (FAILS r) = HeldBy m S → S m.start → ⊥

abbrev pub Refutes : Meaning → (ℕ → Type 0) → Result Settled SettleFault → Type 0
Refutes m S (Err e) = Unit {0}
Refutes m S (Ok s) = Refuted m S s.verdict
