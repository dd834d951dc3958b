mod Empty
mod Fitting
mod Joined
