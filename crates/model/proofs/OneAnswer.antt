-- No two answers fit one promise: what that says of a function, and how it follows. Assumes nothing.
-- `Learnt` is the toolchain's own reading of a function's contract, in the generated module `FUNCTION.Reads`: what a caller learns of a call, of its lifetimes κs, its arguments a, its answer r and its parameters at exit s.
use mathlib.Core.Path.{◌≡◌, sym, ◌∙◌}
use seplogic.Ra.Ura.{Ura}
use base.Logic.{SProp}
use prog.Memory.{Memory}
use prog.Routine.{Routine}
use types.Logic.{Logic}
use contract.Lifetimes.{Lfts}
use contract.Monad.{Fun, fact}
use denote.Triple.Entry.{Args, Res}
use denote.Triple.Clauses.{Ended, Clauses, AtExit}

module _ {K : Type 0} {A R S : K → Type 0} (Learnt : (κs : K) → A κs → R κs → S κs → Type 0) where
  -- two calls with the same arguments, each as promised, are the same in what `Same` compares
  abbrev pub One : ((κs : K) → R κs → R κs → S κs → S κs → Type 0) → Type 0
  One Same = (κs : K) (a : A κs) (r r' : R κs) (s s' : S κs) → Learnt κs a r s → Learnt κs a r' s' → Same κs r r' s s'

  -- in the answer
  abbrev pub OneAnswer : Type 0
  OneAnswer = One (λ κs r r' s s'. r ≡ r')

  -- in the answer, and in what a lent buffer holds afterwards
  abbrev pub OneAnswerAnd : {B : Type 0} → ((κs : K) → S κs → B) → Type 0
  OneAnswerAnd buffer = One (λ κs r r' s s'. (r ≡ r') × (buffer κs s ≡ buffer κs s'))

  -- and in another
  abbrev pub OneAnswerAndBoth : {B C : Type 0} → ((κs : K) → S κs → B) → ((κs : K) → S κs → C) → Type 0
  OneAnswerAndBoth buffer other = One (λ κs r r' s s'. (r ≡ r') × ((buffer κs s ≡ buffer κs s') × (other κs s ≡ other κs s')))

-- each of the two is what is promised
pub agree : {A : Type 0} {x y z : A} → x ≡ z → y ≡ z → x ≡ y
agree p q = p ∙ sym q

-- A function that is proved by hand has no `Reads`: this is the reading of its generated clauses, where they make one fact, whatever the model of the logic.
pub record Reading (T : Ended) (clauses : (M : Type 1) (𝓤 : Ura M) (𝓛 : Logic 𝓤) → (Memory → SProp 𝓤) → (Routine → Fun 𝓤) → Clauses 𝓤 T) : Type 3 where
  pub Learnt : (κs : Lfts T.signature.lifetimes) → Args T.signature κs → Res T.signature κs → AtExit T κs → Type 0
  pub reads : (M : Type 1) (𝓤 : Ura M) (𝓛 : Logic 𝓤) (mem : Memory → SProp 𝓤) (run : Routine → Fun 𝓤) (κs : Lfts T.signature.lifetimes) (a : Args T.signature κs) (g : (clauses M 𝓤 𝓛 mem run κs a).ghost) (r : Res T.signature κs) (s : AtExit T κs)
      → (clauses M 𝓤 𝓛 mem run κs a).ensures g r s ≡ fact 𝓤 (Learnt κs a r s)
