-- Steps of code, for private contracts; nothing that a reader must believe. What mend knows of a header. (FORMAT 10)
use Rattle.std.specs.Prelude.{◌≡◌, ◌||◌, List, ℕ}
use Rattle.model.specs.Refusals.{fine}
use Rattle.model.specs.Layout.{count, scrub_wanted}
use Rattle.model.specs.Mend.{mend_verdict}
use Rattle.view.specs.declared.header.Header.{Header}

-- mend accepts x, and h has its number of regions; this holds after the header half too
pub record Mendable (h : Header) (x : List ℕ) : Type 0 where
  pub regions : h.region_count ≡ count x
  pub accepted : mend_verdict x ≡ fine

-- h tells whether a header copy of x differs from the vote
abbrev pub Tells : Header → List ℕ → Type 0
Tells h x = h.prologue_disagreed || h.directory_disagreed ≡ scrub_wanted x
