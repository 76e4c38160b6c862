-- Fat trees after Merlin's. Level l has routers (l, group, member). A router's ports down come before its ports up, and the last level
-- has none up.
use Rattle.std.specs.Prelude.{◌≡◌, ℕ, ◌+◌, ◌-◌, ◌*◌, ◌/◌, ◌%◌, ◌<◌, ◌≤◌, ◌==◌, ◌&&◌, zero, suc, List, [], ◌∷◌, length, take, drop, Bool, not, nat_lt, nat_le, if◌then◌else◌, Option, Some, None}
use Rattle.mr_flow.specs.declared.Peer.{Peer}
use Rattle.mr_flow.specs.declared.Peer.TheVariants.{Router, Host}
use Rattle.mr_topo.specs.Routes.{Routes}
use Rattle.mr_topo.specs.Shape.{spelled, reading, all_below}
use Rattle.mr_fattree.specs.declared.Level.{Level}
use Rattle.mr_fattree.specs.declared.Place.{Place}

-- how many ports down the levels have together, one of each: the product
abbrev pub downs : List Level → ℕ
downs [] = 1
downs (l ∷ ls) = l.down * downs ls

abbrev pub ups : List Level → ℕ
ups [] = 1
ups (l ∷ ls) = l.up * ups ls

-- the ports of a level
abbrev pub down_at : List Level → ℕ → ℕ
down_at [] l = 0
down_at (v ∷ ls) zero = v.down
down_at (v ∷ ls) (suc l) = down_at ls l

abbrev pub up_at : List Level → ℕ → ℕ
up_at [] l = 0
up_at (v ∷ ls) zero = v.up
up_at (v ∷ ls) (suc l) = up_at ls l

-- a level's groups, and the members of each
abbrev pub groups : List Level → ℕ → ℕ
groups ls l = downs (drop (suc l) ls)

abbrev pub members : List Level → ℕ → ℕ
members ls l = ups (take l ls)

-- the routers of the levels below one
abbrev pub before : List Level → ℕ → ℕ
before ls zero = 0
before ls (suc l) = before ls l + groups ls l * members ls l

abbrev pub number_of : List Level → Place → ℕ
number_of ls p = before ls p.level + p.group * members ls p.level + p.member

-- the place of router n of those from a level on, in the next so many levels
abbrev pub place_from : List Level → ℕ → ℕ → ℕ → Place
place_from ls l zero n = record { level = l; group = 0; member = 0 }
place_from ls l (suc more) n = if nat_lt n (groups ls l * members ls l) then record { level = l; group = n / members ls l; member = n % members ls l } else place_from ls (suc l) more (n - groups ls l * members ls l)

abbrev pub place_of : List Level → ℕ → Place
place_of ls n = place_from ls 0 (length ls) n

-- down, where the endpoint is below the router, and else up
abbrev pub port_at : List Level → Place → ℕ → ℕ
port_at ls p e = if e / downs (take (suc p.level) ls) == p.group then e / downs (take p.level ls) % down_at ls p.level else down_at ls p.level + e / members ls p.level % up_at ls p.level

-- port j down leads to endpoint group * down + j, or to the group's router of the level below
abbrev pub below : List Level → ℕ → ℕ → ℕ → ℕ → Peer
below ls zero group member j = Host (group * down_at ls 0 + j)
below ls (suc l) group member j = Router (number_of ls (record { level = l; group = group * down_at ls (suc l) + j; member = member / up_at ls l })) (down_at ls l + member % up_at ls l)

-- and up the other way
abbrev pub above : List Level → Place → ℕ → Peer
above ls p q = Router (number_of ls (record { level = suc p.level; group = p.group / down_at ls (suc p.level); member = p.member * up_at ls p.level + q })) (p.group % down_at ls (suc p.level))

abbrev pub peer_at : List Level → Place → ℕ → Peer
peer_at ls p port = if nat_lt port (down_at ls p.level) then below ls p.level p.group p.member port else above ls p (port - down_at ls p.level)

abbrev pub fat_tree : List Level → Routes
fat_tree ls = record {
  routers = before ls (length ls);
  endpoints = downs ls;
  ports = λ r. let p = place_of ls r in down_at ls p.level + up_at ls p.level;
  channels = 1;
  route = λ r f. (port_at ls (place_of ls r) f.dst, f.vn);
  peer = λ r port. Some (peer_at ls (place_of ls r) port);
}

-- the numbers of a shape's text: down and up of each level but the last, which has down alone
abbrev pub numbers : List Level → List ℕ
numbers [] = []
numbers (l ∷ []) = l.down ∷ []
numbers (l ∷ m ∷ ls) = l.down ∷ l.up ∷ numbers (m ∷ ls)

-- the levels that a list of such numbers gives
abbrev pub levels_of : List ℕ → List Level
levels_of [] = []
levels_of (d ∷ []) = record { down = d; up = 0 } ∷ []
levels_of (d ∷ u ∷ ns) = record { down = d; up = u } ∷ levels_of ns

-- the numbers of a level; the last level alone has no ports up
pub record IsLevel (down up : ℕ) (last : Bool) : Type 0 where
  pub some : 1 ≤ down
  pub few : down ≤ 128
  pub few_up : up ≤ 128
  pub top : (up == 0) ≡ last

abbrev pub AreLevels : List Level → Type 0
AreLevels ls = (l : ℕ) → l < length ls → IsLevel (down_at ls l) (up_at ls l) (l + 1 == length ls)

pub record IsTree (ls : List Level) : Type 0 where
  pub some : 1 ≤ length ls
  pub few : length ls ≤ 4
  pub levels : AreLevels ls
  pub routers : before ls (length ls) ≤ 65536
  pub endpoints : downs ls ≤ 4096

-- a place that a tree has
pub record IsPlace (ls : List Level) (p : Place) : Type 0 where
  pub level : p.level < length ls
  pub group : p.group < groups ls p.level
  pub member : p.member < members ls p.level

-- a text is the levels' numbers, with a comma inside a level and a colon between levels
pub record IsShape (ls : List Level) (text : List ℕ) : Type 0 where
  pub tree : IsTree ls
  pub text_is : spelled 44 58 (numbers ls) ≡ text

-- whether these are the ports of a level, which is the last one or not
abbrev pub is_level : ℕ → ℕ → Bool → Bool
is_level down up last = nat_le 1 down && nat_le down 128 && nat_le up 128 && (if last then up == 0 else not (up == 0))

-- whether levels make a tree
abbrev pub is_tree : List Level → Bool
is_tree ls = nat_le 1 (length ls) && nat_le (length ls) 4 && all_below (length ls) (λ l. is_level (down_at ls l) (up_at ls l) (l + 1 == length ls)) && nat_le (before ls (length ls)) 65536 && nat_le (downs ls) 4096

-- the levels of a text, where it is that of a tree
abbrev pub tree_by : Option (List ℕ) → Option (List Level)
tree_by None = None
tree_by (Some ns) = if (length ns % 2 == 1) && is_tree (levels_of ns) then Some (levels_of ns) else None

unfoldable pub tree_of : List ℕ → Option (List Level)
tree_of text = tree_by (reading 44 58 0 text)
