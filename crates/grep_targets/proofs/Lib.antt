mod Naming
mod Filtering
mod InOrder
mod Walking
mod Standing
mod StandLaws
