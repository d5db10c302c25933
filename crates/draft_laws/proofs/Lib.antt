mod PathLaws
mod ReadBackLaws
mod ReadLaws
mod StoreLaws
mod WriteLaws
