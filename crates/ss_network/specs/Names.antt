-- The names of the ports of routers and endpoints.
use Rattle.std.specs.Prelude.{ℕ, zero, suc, List, ◌++◌, if◌then◌else◌, Option, Some, None, codes, decimal}
use Rattle.std.specs.Str.{bytes_eq}
use Rattle.ss_network.specs.declared.member.Member.{Member}
use Rattle.ss_network.specs.declared.member.Member.TheVariants as member
use Rattle.ss_network.specs.Network.{ports_of}

-- a router's port has its number in its name
abbrev pub port_text : ℕ → List ℕ
port_text p = codes "port" ++ decimal p

-- the one of so many ports that has a name
abbrev pub numbered : ℕ → List ℕ → Option ℕ
numbered zero s = None
numbered (suc n) s = if bytes_eq (port_text n) s then Some n else numbered n s

-- the name of an endpoint's port
abbrev pub rtr_text : List ℕ
rtr_text = codes "rtr"

-- the port of a member that has a name
abbrev pub port_of : Member → List ℕ → Option ℕ
port_of (member.Router r) s = numbered (ports_of r) s
port_of (member.Endpoint e) s = if bytes_eq rtr_text s then Some 0 else None
port_of member.Other s = None
