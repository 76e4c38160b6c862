use Rattle.mr_works.proofs.EndpointNumbers.{endpoint_numbers}
use Rattle.mr_works.proofs.Routers.{router_numbers}
use Rattle.mr_works.proofs.endpoints_number_their_packets.Goals as goal

pub returns : goal.returns
returns c = record { endpoints = endpoint_numbers; routers = router_numbers }
