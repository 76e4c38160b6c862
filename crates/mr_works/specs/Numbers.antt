-- How routers and endpoints number packets.
use Rattle.std.specs.Prelude.{ℕ, ◌+◌, ◌-◌, ◌/◌, ◌%◌, ◌==◌, ◌&&◌, nat_le, nat_lt, Bool, true, List, [], ◌∷◌, length, slice_index, if◌then◌else◌}
use Rattle.mr_flow.specs.declared.Packet.{Packet}
use Rattle.mr_topo.specs.Routes.{Flow}
use Rattle.mr_router.specs.Router.{Switch}
use Rattle.mr_nic.specs.declared.nic.Source.{Source}
use Rattle.mr_nic.specs.declared.nic.Source.TheVariants as source
use Rattle.mr_nic.specs.declared.nic.Endpoint.{Endpoint}
use Rattle.mr_nic.specs.Endpoint.{networks}
use Rattle.mr_order.specs.Numbers.{Numbering}

-- routers inject nothing
abbrev pub router_numbering : Numbering Switch Packet Flow
router_numbering = record { number = λ p. p.seq; count = λ x f. 0; sound = λ x. true }

-- how many of the numbers below n leave r when they are divided by k
abbrev pub below : ℕ → ℕ → ℕ → ℕ
below n k r = (n + (k - 1 - r)) / k

-- the place of an endpoint among the others of one, which are counted from the one behind it
abbrev pub place_of : ℕ → ℕ → ℕ → ℕ
place_of peers id d = (d + (peers - id - 1)) % peers

-- A test sends its messages to the others in turn, and those to each on one network after another. A generator counts the packets of
-- each destination
abbrev pub test_count : ℕ → ℕ → ℕ → ℕ → ℕ → ℕ → ℕ
test_count peers id sent networks d vn =
    if nat_lt (place_of peers id d) (peers - 1) then below (below sent (peers - 1) (place_of peers id d)) networks vn else 0

abbrev pub count_by : Source → Endpoint → Flow → ℕ
count_by (source.Test verbose) n f = test_count n.peers n.id n.sent (networks n) f.dst f.vn
count_by (source.Traffic pattern vn seed hot) n f = if f.vn == vn then slice_index n.next f.dst else 0

-- a generator has a number for each endpoint, none above the number of packets that it made
abbrev pub none_above : ℕ → List ℕ → Bool
none_above m [] = true
none_above m (k ∷ ks) = nat_le k m && none_above m ks

abbrev pub source_counts : Source → Endpoint → Bool
source_counts (source.Test verbose) n = true
source_counts (source.Traffic pattern vn seed hot) n = (length n.next == n.peers) && none_above n.sent n.next

abbrev pub endpoint_numbering : Numbering Endpoint Packet Flow
endpoint_numbering = record { number = λ p. p.seq; count = λ n f. count_by n.source n f; sound = λ n. source_counts n.source n }
