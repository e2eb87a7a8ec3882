-- `requests::append` meets its contract: what is promised of the element's octets is promised of the request.
use Rattle.measurement_body.specs.Requests.{request_sort}
use Rattle.measurement_body.proofs.Following.{of_record}
use Rattle.measurement_body.proofs.requests.append.Goals as goal

pub returns : goal.returns
returns c =
    let a = c.args in
    let o = c.to_octets-bytes in
    of_record request_sort a.token a.request a.used a.buffer.now o.result c.may_write.ensures o.ensures.1 c.octet_count.ensures.0
    c.append.ensures
