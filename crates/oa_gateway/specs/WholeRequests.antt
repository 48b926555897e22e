-- Which of a client's bytes are whole requests. (This project's choice.)
use Rattle.std.specs.Prelude.{◌≡◌, ◌⊎◌, ◌<◌, ◌≤◌, ℕ, Bool, true, false, List, [], length, take, drop}
use Rattle.oa_frame.specs.promise.Framings.{records}
use Rattle.oa_frame.specs.promise.Sessions.{Bodies}
use Rattle.oa_model.specs.promise.Limits.{max_request_bytes}
use Rattle.oa_mux.specs.Readers.{IsPartRecord, IsWholeRecord}
use Rattle.oa_mux.specs.promise.Readers.{said}
use Rattle.oa_gateway.specs.declared.requests.Next.{Next}
use Rattle.oa_gateway.specs.declared.requests.Next.TheVariants as next

-- these bytes are the requests of these bodies, one after another, and nothing else
abbrev pub AreRequests : List ℕ → List (List ℕ) → Type 0
AreRequests bytes bodies = Bodies records bytes bodies []

-- four bytes that no request begins with: the length 0, or one above the limit of a request
pub record EndsRequests (bytes : List ℕ) : Type 0 where
  pub four : length bytes ≡ 4
  pub wrong : (said bytes ≡ 0) ⊎ (max_request_bytes < said bytes)

-- what follows the whole requests: bytes that end them, or a part of the next one
abbrev pub FollowsRequests : Bool → List ℕ → Type 0
FollowsRequests true rest = EndsRequests (take 4 rest)
FollowsRequests false rest = IsPartRecord rest

-- the beginning of some bytes
abbrev pub IsNextRequest : Next → List ℕ → Type 0
IsNextRequest (next.Whole count) bytes = (count ≤ length bytes) × IsWholeRecord (take count bytes)
IsNextRequest next.Part bytes = IsPartRecord bytes
IsNextRequest next.Ends bytes = EndsRequests (take 4 bytes)

-- these bytes are whole requests up to there
pub record CutsAt (bytes : List ℕ) (whole : ℕ) (ends : Bool) : Type 0 where
  pub within : whole ≤ length bytes
  pub bodies : List (List ℕ)
  pub requests : AreRequests (take whole bytes) bodies
  pub rest : FollowsRequests ends (drop whole bytes)
